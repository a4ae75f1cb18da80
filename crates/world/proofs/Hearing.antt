-- What the host reads is what the keymap gives for the debounced keys.
use Rattle.std.proofs.lemmas.Grind.{common_steps}
use Rattle.std.proofs.Common.{◌≡◌, ℕ, Bool, not, Option, Some, None, List, [], ◌∷◌, refl, sym, ◌∙◌, ap, subst, arith}
use Rattle.flash_model.specs.Image.{slot_at}
use Rattle.flash_model.specs.Sim.{SimValue}
use Rattle.control_ep.specs.declared.answer.EpAnswer.{EpAnswer}
use Rattle.control_ep.specs.declared.answer.EpAnswer.TheVariants as ep
use Rattle.host.specs.Calls.{HostCall, lost}
use Rattle.host.specs.Kept.{gathering, kept}
use Rattle.host.specs.declared.reading.Reading.{Reading}
use Rattle.host.specs.declared.reading.Reading.TheVariants.{Unread}
use Rattle.layers.specs.Codes.{DefaultCodes}
use Rattle.keyboard.specs.Calls.{Polled, EachCall}
use Rattle.keyboard.specs.Effects.{protocol_after}
use Rattle.keyboard.specs.Feature.{yes, no}
use Rattle.keyboard.specs.Conforming as keyboard
use Rattle.world.specs.Heard.{with_heard, Hears, at_start, one_more, NoneOrServed, none_kept}
use Rattle.world.specs.Read.{IsReadAs}
use Rattle.world.proofs.Sending.{sent_is_wanted}
use Rattle.world.proofs.Fetching.{fetched_is_served, gathered_is_served}
use Rattle.world.proofs.Understood.{read_is_wanted}
use Rattle.world.specs.declared.event.Event.{Event}
use Rattle.world.specs.declared.event.Answer.{Answer}
use Rattle.world.specs.declared.event.Answer.TheVariants.{Nak, Sent, SlotIs, NoSlot}
use Rattle.world.specs.Kinds.{Step, Kind, starts, calls, looks, kind, as_answer, bytes_reported}
use Rattle.world.specs.History.{Session, session_with, session, heard_in, host_calls, flash_after, EachStep}
use Rattle.world.specs.Conforming.{SlotAnswer, Answered, IsAnswered, IsSent}
use Rattle.world.specs.Readings.{ReadsWanted, KeepsServed, GathersServed}
use Rattle.world.proofs.Here.{here}
use Rattle.world.proofs.Keeping.{IsCutOff, KeptIfFetched, kept_first, kept_over_cut, kept_after, where_fetched}

-- what the host was told before the session, of which it keeps the served descriptor where it fetched it, else none, and that
-- it hears the session
record Hearing (now : Session) (host : List HostCall) : Type 0 where
  pub reported_before : List HostCall
  pub hears : Hears reported_before now.past host
  pub none : gathering reported_before ≡ None
  pub keeps : NoneOrServed (kept reported_before)
  pub cut_off : IsCutOff reported_before
  pub fetched : KeptIfFetched reported_before

-- an answer that is no report
pub clash : {A : Type 0} (answer other : Answer) (bytes : List ℕ) (reading : Reading) → answer ≡ other → bytes_reported other ≡ None
    → answer ≡ Sent (record { items = bytes }) reading → A
clash answer other bytes reading a n e =
    let some_is_none = sym (ap bytes_reported e) ∙ ap bytes_reported a ∙ n in
    cc

pub of_slot : {A : Type 0} (answer : Answer) (bytes : List ℕ) (reading : Reading) (image : List ℕ) (page slot : ℕ) → SlotAnswer image page slot answer
    → answer ≡ Sent (record { items = bytes }) reading → A
of_slot answer bytes reading image page slot (yes p a) e = clash answer (SlotIs (slot_at image page slot)) bytes reading a refl e
of_slot answer bytes reading image page slot (no p a) e = clash answer NoSlot bytes reading a refl e

pub of_endpoint : (answer : EpAnswer) → bytes_reported (as_answer answer) ≡ None
of_endpoint ep.Ack = refl
of_endpoint ep.Nak = refl
of_endpoint (ep.Packet packet) = refl
of_endpoint (ep.Stall why) = refl

abbrev reading_reported : Answer → Reading
reading_reported (Sent bytes reading) = reading
reading_reported _ = Unread

abbrev pub bytes_or_none : Option (List ℕ) → List ℕ
bytes_or_none (Some bytes) = bytes
bytes_or_none None = []

module _ (defaults : DefaultCodes) where
  hearing_with : (before : Session) (image : List ℕ) (k : Kind) (memory : Bool) (host : List HostCall) → EachCall (keyboard.IsAnswered defaults) before.first before.past → Hearing before host
      → Hearing (session_with k image before) (with_heard (heard_in k memory) host)
  unfolding gathering kept
  hearing_with before image starts memory host l h = record {
    reported_before = lost ∷ host;
    hears = at_start;
    none = refl;
    keeps = fetched_is_served defaults before.first before.past h.reported_before host l h.hears h.none h.keeps;
    cut_off = tt;
    fetched = kept_over_cut host (kept_after defaults before.first before.past h.reported_before host l h.hears h.none h.keeps h.cut_off h.fetched);
  }
  hearing_with before image (calls call) memory host l h = record {
    reported_before = h.reported_before;
    hears = one_more call memory before.past host h.hears;
    none = h.none;
    keeps = h.keeps;
    cut_off = h.cut_off;
    fetched = h.fetched;
  }
  hearing_with before image looks memory host l h = h

  hearing : (start : SimValue) (past : List Step) → EachStep (IsAnswered defaults) start past → Hearing (session start past) (host_calls past)
  unfolding gathering kept
  hearing start [] h = record { reported_before = []; hears = at_start; none = refl; keeps = none_kept refl; cut_off = tt; fetched = kept_first }
  hearing start (step ∷ before) h =
      hearing_with (session start before) step.flash.image (kind step) (not step.refused) (host_calls before) (here defaults start before h.1).conforming
      (hearing start before h.1)

  read_of_sent : (now : Session) (host : List HostCall) (report : Option (List ℕ)) (answer : Answer) (refused : Bool) (bytes : List ℕ) (reading : Reading)
      → EachCall (keyboard.IsAnswered defaults) now.first now.past → Hearing now host → keyboard.IsAnswered defaults now.first now.past (Polled report)
      → IsSent (protocol_after now.past) host report answer refused → answer ≡ Sent (record { items = bytes }) reading → IsReadAs defaults now.first now.past host bytes reading
  read_of_sent now host None answer refused bytes reading l h p s e = clash answer Nak bytes reading s.0 refl e
  read_of_sent now host (Some sent) answer refused bytes reading l h p (read, a, r, n) e =
      let same_bytes = ap (λ (x : Answer). bytes_or_none (bytes_reported x)) (sym a ∙ e) in
      let same_reading = ap reading_reported (sym a ∙ e) in
      let by_theorem = read_is_wanted defaults now.first now.past host sent read (sent_is_wanted defaults now.first now.past sent p)
      (fetched_is_served defaults now.first now.past h.reported_before host l h.hears h.none h.keeps) r in
      subst (λ (x : List ℕ). IsReadAs defaults now.first now.past host x reading) same_bytes
      (subst (λ (x : Reading). IsReadAs defaults now.first now.past host sent x) same_reading by_theorem)

  reads_by : (now : Session) (host : List HostCall) (old : SimValue) (event : Event) (answer : Answer) (refused : Bool) (new : SimValue) (bytes : List ℕ) (reading : Reading)
      → EachCall (keyboard.IsAnswered defaults) now.first now.past → Hearing now host → Answered defaults now host old event answer refused new
      → answer ≡ Sent (record { items = bytes }) reading → IsReadAs defaults now.first now.past host bytes reading
  reads_by now host old event answer refused new bytes reading l h a e = grind (arith, common_steps, clash, of_endpoint, read_of_sent, of_slot)

  pub reads_wanted : (start : SimValue) (past : List Step) → EachStep (IsAnswered defaults) start past → EachStep (ReadsWanted defaults) start past
  reads_wanted start [] h = tt
  reads_wanted start (step ∷ before) h = (
    λ bytes reading e. reads_by (session start before) (host_calls before) (flash_after start before) step.event step.answer step.refused step.flash bytes reading
        (here defaults start before h.1).conforming (hearing start before h.1) h.0 e,
    reads_wanted start before h.1,
  )

  kept_by : (now : Session) (host : List HostCall) → EachCall (keyboard.IsAnswered defaults) now.first now.past → Hearing now host → NoneOrServed (kept host) × KeptIfFetched host
  kept_by now host l h = (
    fetched_is_served defaults now.first now.past h.reported_before host l h.hears h.none h.keeps,
    kept_after defaults now.first now.past h.reported_before host l h.hears h.none h.keeps h.cut_off h.fetched,
  )

  pub keeps_served : (start : SimValue) (past : List Step) → EachStep (IsAnswered defaults) start past → KeepsServed start past
  keeps_served start past h =
      let k = kept_by (session start past) (host_calls past) (here defaults start past h).conforming (hearing start past h) in
      where_fetched (host_calls past) k.0 k.1

  pub gathers_served : (start : SimValue) (past : List Step) → EachStep (IsAnswered defaults) start past → GathersServed start past
  gathers_served start past h fetch gathers =
      let heard = hearing start past h in
      gathered_is_served defaults (session start past).first (session start past).past heard.reported_before (host_calls past) fetch (here defaults start past h).conforming heard.hears heard.none heard.keeps gathers
