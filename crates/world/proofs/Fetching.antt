-- What a host keeps after a session.
use Rattle.std.proofs.Common.{◌≡◌, ℕ, Bool, true, false, if◌then◌else◌, List, [], ◌∷◌, Option, Some, None, length, take, refl, sym, ◌∙◌, ap, subst, inl, inr}
use Rattle.std.specs.Prelude.{unwrap_or}
use Rattle.descriptor_build.specs.Served.{report_bytes}
use Rattle.control_ep.specs.declared.answer.EpAnswer.{EpAnswer}
use Rattle.control_ep.specs.declared.answer.EpAnswer.TheVariants.{Ack, Nak, Packet, Stall}
use Rattle.control_ep.specs.declared.answer.Effect.{Effect}
use Rattle.control_ep.specs.Calls.{EpCall, Setup, In as EpIn, Reset}
use Rattle.control_ep.specs.Packets.{packet_at}
use Rattle.control_ep.specs.Stage.{calls_since, last_setup, first_stall, count_in, progress_of, stage}
use Rattle.control_ep.specs.Answers.{in_answer, out_step}
use Rattle.control_ep.proofs.Stages.{stage-is}
use Rattle.host.specs.Calls.{HostCall, was_set_up, got_packet, lost}
use Rattle.host.specs.Kept.{Fetch, asks_for_report, wanted_length, gathering, kept}
use Rattle.layers.specs.Codes.{DefaultCodes}
use Rattle.keymap_store.specs.declared.store.Work.{Work as WorkAnswer}
use Rattle.keymap_store.specs.declared.store.Work.TheVariants as Work
use Rattle.keyboard.specs.Calls.{Call, Scanned, SetUp, Out, In, Polled, Worked, BusReset, image_after, keymap, EachCall}
use Rattle.keyboard.specs.Effects.{effect_reported}
use Rattle.keyboard.specs.Endpoint.{view_after, ep_calls}
use Rattle.keyboard.specs.Conforming.{IsAnswered}
use Rattle.world.specs.Heard.{heard, with_heard, Hears, at_start, one_more, NoneOrServed, none_kept, served_kept}
use Rattle.world.proofs.Requesting.{reads_report}
use Rattle.world.proofs.Giving.{Given, stalls, gives, given}
use Rattle.world.proofs.Tracing.{Traces, traces_start, traces_setup, traces_lost, traces_idle, traces_packet}
use Rattle.world.proofs.Gathering.{Gathers, IfGathers, SameRead, same_read, same_out, same_settle, same_fail, stalled_read, goes_on_read, NoneOr, kept_read}

-- what a host that hears a session gathers and keeps, where the endpoint had these calls
pub record Fetches (reported : List HostCall) (calls : List EpCall) (host : List HostCall) : Type 0 where
  pub gathers : IfGathers report_bytes calls (gathering host)
  pub keeps : NoneOr report_bytes (kept host)
  pub traces : Traces reported host

same : (reported : List HostCall) (old new : List EpCall) (host : List HostCall) → SameRead old new → Fetches reported old host → Fetches reported new host
same reported old new host s h = record { gathers = same_read report_bytes old new (gathering host) s h.gathers; keeps = h.keeps; traces = h.traces }

-- ---- a SETUP packet

was_lost : (reported : List HostCall) (calls : List EpCall) (host : List HostCall) → Fetches reported calls host → Fetches reported (Reset ∷ calls) (lost ∷ host)
unfolding gathering kept
was_lost reported calls host h = record { gathers = tt; keeps = h.keeps; traces = traces_lost reported host h.traces }

-- ---- an IN packet

-- where nothing is gathered, no answer changes anything
not_gathering : (reported : List HostCall) (calls : List EpCall) (answer : EpAnswer) (effect : Effect) (memory : Bool) (host : List HostCall) → gathering host ≡ None → Fetches reported calls host
    → Fetches reported (EpIn answer effect ∷ calls) (with_heard (heard (In answer) memory) host)
unfolding gathering kept
not_gathering reported calls Ack effect memory host g h = record { gathers = rw g tt; keeps = h.keeps; traces = h.traces }
not_gathering reported calls Nak effect memory host g h = record { gathers = rw g tt; keeps = h.keeps; traces = h.traces }
not_gathering reported calls (Packet packet) effect memory host g h = record { gathers = rw g tt; keeps = rw g h.keeps; traces = traces_idle reported host packet.items memory g h.traces }
not_gathering reported calls (Stall why) effect memory host g h = record { gathers = rw g tt; keeps = h.keeps; traces = h.traces }

-- a packet of the read that is gathered
gave : (reported : List HostCall) (calls : List EpCall) (bytes : List ℕ) (effect : Effect) (memory : Bool) (host : List HostCall) (fetch : Fetch) → length report_bytes ≡ 99 → gathering host ≡ Some fetch → Gathers report_bytes calls fetch
    → NoneOr report_bytes (kept host) → Traces reported host → first_stall (calls_since calls) ≡ None → unwrap_or (packet_at report_bytes fetch.wanted (count_in (calls_since calls))) [] ≡ bytes
    → Fetches reported (EpIn (Packet (record { items = bytes })) effect ∷ calls) (got_packet bytes memory ∷ host)
unfolding gathering kept
gave reported calls bytes effect memory host fetch size g h k t none p = record {
  gathers = rw g (goes_on_read report_bytes calls fetch bytes effect memory h none p);
  keeps = rw g (kept_read report_bytes calls fetch bytes memory (kept host) size h none p k);
  traces = traces_packet reported host calls report_bytes fetch bytes memory g (record { gathers = h; unstalled = none; bytes_are = p }) t;
}

answered_in : (reported : List HostCall) (calls : List EpCall) (answer : EpAnswer) (effect : Effect) (memory : Bool) (host : List HostCall) (fetch : Fetch) → length report_bytes ≡ 99 → gathering host ≡ Some fetch
    → Gathers report_bytes calls fetch → NoneOr report_bytes (kept host) → Traces reported host
    → Given report_bytes fetch.wanted (count_in (calls_since calls)) (first_stall (calls_since calls)) answer
    → Fetches reported (EpIn answer effect ∷ calls) (with_heard (heard (In answer) memory) host)
answered_in reported calls answer effect memory host fetch size g h k t (stalls why e) =
    subst (λ (a : EpAnswer). Fetches reported (EpIn a effect ∷ calls) (with_heard (heard (In a) memory) host)) (sym e)
    (record { gathers = rw g (stalled_read report_bytes calls why effect (Some fetch) h); keeps = k; traces = t })
answered_in reported calls answer effect memory host fetch size g h k t (gives bytes none p e) =
    subst (λ (a : EpAnswer). Fetches reported (EpIn a effect ∷ calls) (with_heard (heard (In a) memory) host)) (sym e)
    (gave reported calls bytes effect memory host fetch size g h k t none p)

by_gathering : (reported : List HostCall) (calls : List EpCall) (answer : EpAnswer) (effect : Effect) (memory : Bool) (host : List HostCall) (o : Option Fetch) → length report_bytes ≡ 99 → gathering host ≡ o
    → Fetches reported calls host → answer ≡ in_answer (stage calls) → Fetches reported (EpIn answer effect ∷ calls) (with_heard (heard (In answer) memory) host)
by_gathering reported calls answer effect memory host None size g h a = not_gathering reported calls answer effect memory host g h
by_gathering reported calls answer effect memory host (Some fetch) size g h a =
    let now : Gathers report_bytes calls fetch = rw g at h.gathers in
    answered_in reported calls answer effect memory host fetch size g now h.keeps h.traces
    (given report_bytes fetch.wanted (first_stall (calls_since calls)) (last_setup calls) (progress_of (calls_since calls)) answer now.begins (a ∙ ap in_answer (stage-is calls)))

-- ---- any call

pub as_sum : (text : Option (List ℕ)) → NoneOrServed text → NoneOr report_bytes text
as_sum text (none_kept e) = inl e
as_sum text (served_kept e) = inr e

from_sum : (text : Option (List ℕ)) → NoneOr report_bytes text → NoneOrServed text
from_sum text (inl e) = none_kept e
from_sum text (inr e) = served_kept e

pub fetches_start : (reported : List HostCall) → gathering reported ≡ None → NoneOrServed (kept reported) → Fetches reported [] reported
fetches_start reported none k = record { gathers = rw none tt; keeps = as_sum (kept reported) k; traces = traces_start reported none }

pub served_size : length report_bytes ≡ 99
served_size = refl

gathered_of : (calls : List EpCall) (o : Option Fetch) (fetch : Fetch) → IfGathers report_bytes calls o → o ≡ Some fetch → fetch.bytes ≡ take (length fetch.bytes) report_bytes
gathered_of calls None fetch h e = cc
gathered_of calls (Some f) fetch h e = (let same : f ≡ fetch = cc in subst (λ (x : Fetch). x.bytes ≡ take (length x.bytes) report_bytes) same h.so_far)

module _ (defaults : DefaultCodes) where
  begins_by : (calls : List EpCall) (start : List ℕ) (before : List Call) (setup : List ℕ) (asks : Bool) → asks_for_report setup ≡ asks
      → IfGathers report_bytes (Setup setup (view_after defaults start before) ∷ calls) (if asks then Some (record { wanted = wanted_length setup; bytes = [] }) else None)
  begins_by calls start before setup false e = tt
  begins_by calls start before setup true e = record { begins = rw (reads_report setup (view_after defaults start before) e) refl; bytes_are = λ f. refl; so_far = refl }

  set_up : (reported : List HostCall) (calls : List EpCall) (start : List ℕ) (before : List Call) (setup : List ℕ) (host : List HostCall) → Fetches reported calls host
      → Fetches reported (Setup setup (view_after defaults start before) ∷ calls) (was_set_up setup ∷ host)
  unfolding gathering kept
  set_up reported calls start before setup host h = record {
    gathers = begins_by calls start before setup (asks_for_report setup) refl;
    keeps = h.keeps;
    traces = traces_setup reported host setup h.traces;
  }

  worked : (reported : List HostCall) (start : List ℕ) (before : List Call) (work : WorkAnswer) (image : List ℕ) (host : List HostCall) → Fetches reported (ep_calls defaults start before) host → Fetches reported (ep_calls defaults start (Worked work image ∷ before)) host
  unfolding ep_calls
  worked reported start before Work.Idle image host h = h
  worked reported start before Work.Working image host h = h
  worked reported start before Work.Settled image host h = same reported (ep_calls defaults start before) (ep_calls defaults start (Worked Work.Settled image ∷ before)) host (same_settle (ep_calls defaults start before)) h
  worked reported start before Work.Failed image host h = same reported (ep_calls defaults start before) (ep_calls defaults start (Worked Work.Failed image ∷ before)) host (same_fail (ep_calls defaults start before)) h

  step : (reported : List HostCall) (start : List ℕ) (before : List Call) (call : Call) (memory : Bool) (host : List HostCall) → length report_bytes ≡ 99 → IsAnswered defaults start before call → Fetches reported (ep_calls defaults start before) host
      → Fetches reported (ep_calls defaults start (call ∷ before)) (with_heard (heard call memory) host)
  unfolding ep_calls
  step reported start before (Scanned scan) memory host size a h = h
  step reported start before (SetUp bytes) memory host size a h = set_up reported (ep_calls defaults start before) start before bytes host h
  step reported start before (Out packet answer) memory host size a h =
      same reported (ep_calls defaults start before) (ep_calls defaults start (Out packet answer ∷ before)) host
      (same_out defaults (out_step (stage (ep_calls defaults start before)) packet) packet (keymap defaults (image_after start before)) answer (ep_calls defaults start before)) h
  step reported start before (In answer) memory host size a h =
      by_gathering reported (ep_calls defaults start before) answer (effect_reported before answer) memory host (gathering host) size refl h a
  step reported start before (Polled answer) memory host size a h = h
  step reported start before (Worked work image) memory host size a h = worked reported start before work image host h
  step reported start before BusReset memory host size a h = was_lost reported (ep_calls defaults start before) host h

  pub fetches : (start : List ℕ) (reported : List HostCall) (past : List Call) (host : List HostCall) → length report_bytes ≡ 99 → Hears reported past host → EachCall (IsAnswered defaults) start past
      → Fetches reported [] reported → Fetches reported (ep_calls defaults start past) host
  unfolding ep_calls
  fetches start reported past host size at_start answered h = h
  fetches start reported past host size (one_more call memory before earlier heard_before) answered h =
      step reported start before call memory earlier size answered.0 (fetches start reported before earlier size heard_before answered.1 h)

  pub fetched_is_served : (start : List ℕ) (past : List Call) (reported host : List HostCall) → EachCall (IsAnswered defaults) start past → Hears reported past host → gathering reported ≡ None → NoneOrServed (kept reported)
      → NoneOrServed (kept host)
  fetched_is_served start past reported host answered hears none k =
      from_sum (kept host) (fetches start reported past host served_size hears answered (fetches_start reported none k)).keeps

  pub gathered_is_served : (start : List ℕ) (past : List Call) (reported host : List HostCall) (fetch : Fetch) → EachCall (IsAnswered defaults) start past → Hears reported past host → gathering reported ≡ None
      → NoneOrServed (kept reported) → gathering host ≡ Some fetch → fetch.bytes ≡ take (length fetch.bytes) report_bytes
  gathered_is_served start past reported host fetch answered hears none k e =
      gathered_of (ep_calls defaults start past) (gathering host) fetch (fetches start reported past host served_size hears answered (fetches_start reported none k)).gathers e
