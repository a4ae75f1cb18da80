-- A conforming history is given by its start, its events and where memory was refused.
use Rattle.std.proofs.Common.{◌≡◌, ◌∙◌, ℕ, Bool, Option, None, Some, IsSome, List, [], ◌∷◌, map, refl, sym, ap, subst}
use Rattle.flash_model.specs.FlashOperation.{FlashOperation, programs, erases}
use Rattle.flash_model.specs.Operated.{Outcome, IsOperated}
use Rattle.flash_model.specs.Sim.{SimValue}
use Rattle.flash_model.proofs.ByMask.{one_program, one_erase}
use Rattle.descriptor_parse.specs.Descriptor.{DescriptorValue, bits_of}
use Rattle.descriptor_parse.specs.declared.field.Kind.{Kind}
use Rattle.descriptor_parse.specs.declared.field.Kind.TheVariants.{Input}
use Rattle.host_extract.specs.Found.{found, id_of}
use Rattle.host_extract.specs.Pressed.{ArePressed}
use Rattle.host_extract.specs.declared.reading.Found.{Found}
use Rattle.host_extract.specs.Refusals.{refusal}
use Rattle.host_extract.specs.declared.error.ExtractError.{ExtractError}
use Rattle.host_extract.proofs.OneList.{one-list}
use Rattle.host.specs.Calls.{HostCall}
use Rattle.host.specs.Reads.{text_by, ReadsWith, Reads}
use Rattle.host.specs.declared.reading.Reading.{Reading}
use Rattle.host.specs.declared.reading.Reading.TheVariants.{Unread, NoMemory, Usages}
use Rattle.layers.specs.Codes.{DefaultCodes}
use Rattle.layers.specs.declared.command.Command.{Command}
use Rattle.page_turnover.specs.declared.operation.Operation.{Operation}
use Rattle.page_turnover.specs.Next.{on_flash}
use Rattle.reports.specs.declared.Protocol.{Protocol}
use Rattle.control_ep.specs.Answers.{out_step}
use Rattle.keymap_store.specs.declared.store.Work.{Work as WorkAnswer}
use Rattle.keymap_store.specs.declared.store.Work.TheVariants.{Idle, Working, Settled, Failed}
use Rattle.keyboard.specs.Calls.{image_after as call_image}
use Rattle.keyboard.specs.Commands.{working}
use Rattle.keyboard.specs.Endpoint.{stage_after}
use Rattle.keyboard.specs.Conforming.{WorkedOn}
use Rattle.keyboard.specs.Operated.{Works}
use Rattle.keyboard.proofs.Single.{to_one, by_where, out_once, whole_program, whole_erase, same_operation, works_once}
use Rattle.world.specs.declared.event.Event.{Event}
use Rattle.world.specs.declared.event.Event.TheVariants.{Scan, Setup, OutPacket, InPacket, Poll, Work, WorkFault, Cut, CutInWork, BusReset, Entry, SlotAt, Leds}
use Rattle.world.specs.declared.event.Answer.{Answer}
use Rattle.world.specs.declared.event.Answer.TheVariants.{Worked}
use Rattle.world.specs.Kinds.{Step, as_answer}
use Rattle.world.specs.History.{Session, session, host_calls, flash_after}
use Rattle.world.specs.Conforming.{Answered, IsAnswered, IsConforming, IsSent, OperatedAs, SlotAnswer, WorksIn, is_no_memory}
use Rattle.world.specs.Order.{IsNextOperation}
use Rattle.world.proofs.Ordering.{worked}

-- ---- a poll

same_refusal : (d e : DescriptorValue) (report : List ℕ) → d.uses_ids ≡ e.uses_ids → ((kind : Kind) (id : ℕ) → bits_of d kind id ≡ bits_of e kind id) → refusal d report ≡ refusal e report
unfolding refusal
same_refusal d e [] u b = refl
same_refusal d e (byte ∷ bytes) u b = rw (u, b Input (id_of e (byte ∷ bytes))) refl

same_found : (d e : DescriptorValue) (report : List ℕ) → d.fields ≡ e.fields → d.ranges ≡ e.ranges → d.uses_ids ≡ e.uses_ids → found d report ≡ found e report
unfolding found
same_found d e report f r u = rw (f, r, u) refl

no_refusal : (r : Option ExtractError) → IsSome r → r ≡ None → ⊥
no_refusal r s n = cc

same_reading : (d e : DescriptorValue) (report : List ℕ) (a b : Reading) → refusal d report ≡ refusal e report → found d report ≡ found e report → ReadsWith d report a → ReadsWith e report b → is_no_memory a ≡ is_no_memory b → a ≡ b
same_reading d e report Unread Unread r f x y n = refl
same_reading d e report NoMemory NoMemory r f x y n = refl
same_reading d e report (Usages one) (Usages other) r f x y n = ap Usages (one-list (found e report) one other (subst (λ (readings : List Found). ArePressed readings one) f x.1) y.1)
same_reading d e report Unread (Usages other) r f x y n = absurd (no_refusal (refusal d report) x (r ∙ y.0))
same_reading d e report (Usages one) Unread r f x y n = absurd (no_refusal (refusal e report) y (sym r ∙ x.0))
same_reading d e report Unread NoMemory r f x y n = cc
same_reading d e report NoMemory Unread r f x y n = cc
same_reading d e report (Usages one) NoMemory r f x y n = cc
same_reading d e report NoMemory (Usages other) r f x y n = cc

read_by : (text : Option (List ℕ)) (report : List ℕ) (a b : Reading) → Reads text report a → Reads text report b → is_no_memory a ≡ is_no_memory b → a ≡ b
read_by None report a b x y n = to_one x y
read_by (Some text) report a b (d, is, with) (e, other, and) n =
    let u = to_one is.uses_ids other.uses_ids in
    same_reading d e report a b
    (same_refusal d e report u (λ kind id. to_one (is.bits kind id) (other.bits kind id)))
    (same_found d e report (to_one is.fields other.fields) (to_one is.ranges other.ranges) u) with and n

sent_once : (protocol : Protocol) (heard : List HostCall) (report other : Option (List ℕ)) (a b : Answer) (refused : Bool) → report ≡ other → IsSent protocol heard report a refused → IsSent protocol heard other b refused → a ≡ b
sent_once protocol heard None None a b refused e x y = to_one x.0 y.0
sent_once protocol heard None (Some bytes) a b refused e x y = cc
sent_once protocol heard (Some bytes) None a b refused e x y = cc
sent_once protocol heard (Some bytes) (Some more) a b refused e (one, x, reads, r) (another, y, read, s) =
    let same : bytes ≡ more = some_bytes bytes more e in
    let read_so : Reads (text_by protocol heard) bytes another = rw same read in
    let reading : one ≡ another = read_by (text_by protocol heard) bytes one another reads read_so (sym r ∙ s) in
    x ∙ rw (same, reading) refl ∙ sym y
  where
    some_bytes : (xs ys : List ℕ) → Some xs ≡ Some ys → xs ≡ ys
    some_bytes xs ys e = cc

-- ---- a look at a slot

slot_once : (image : List ℕ) (page slot : ℕ) (a b : Answer) → SlotAnswer image page slot a → SlotAnswer image page slot b → a ≡ b
slot_once image page slot a b x y = by_where (a ≡ b) to_one to_one x y

-- ---- a step of the flash work

one_outcome : (old : List ℕ) (operation : FlashOperation) (armed : Option (List ℕ)) (a b : List ℕ) → Outcome old operation armed a → Outcome old operation armed b → a ≡ b
one_outcome old (programs page slot bytes) None a b x y = whole_program old b a page slot bytes y x
one_outcome old (programs page slot bytes) (Some mask) a b x y = one_program old b a page slot bytes mask y x
one_outcome old (erases page) None a b x y = whole_erase old b a page y x
one_outcome old (erases page) (Some mask) a b x y = one_erase old b a page mask y x

same_flash : (a b : SimValue) → a.image ≡ b.image → a.armed ≡ b.armed → a.operations ≡ b.operations → a.faults ≡ b.faults → a ≡ b
same_flash a b i r o f =
    ap (λ (x : List ℕ). record a { image = x }) i ∙ ap (λ (x : Option (List ℕ)). record { image = b.image; armed = x; operations = a.operations; faults = a.faults }) r
    ∙ ap (λ (x : ℕ). record { image = b.image; armed = b.armed; operations = x; faults = a.faults }) o ∙ ap (λ (x : ℕ). record b { faults = x }) f

operated_once : (old : SimValue) (operation : FlashOperation) (a b : SimValue) → IsOperated old operation a → IsOperated old operation b → a ≡ b
operated_once old operation a b x y =
    same_flash a b (one_outcome old.image operation old.armed a.image b.image x.outcome y.outcome) (to_one x.armed y.armed) (to_one x.operations y.operations) (to_one x.faults y.faults)

-- what a step came to, and what it left
record SameEnd (a b : WorkAnswer) (new other : SimValue) : Type 0 where
  answer : a ≡ b
  flash : new ≡ other

record SameStep (a b : Answer) (new other : SimValue) : Type 0 where
  answer : a ≡ b
  flash : new ≡ other

reported : (a b : Answer) (x y : WorkAnswer) (new other : SimValue) → a ≡ Worked x → b ≡ Worked y → SameEnd x y new other → SameStep a b new other
reported a b x y new other e f s = record { answer = e ∙ ap Worked s.answer ∙ sym f; flash = s.flash }

same_step : (a b : Step) → a.event ≡ b.event → a.answer ≡ b.answer → a.flash ≡ b.flash → a.refused ≡ b.refused → a ≡ b
same_step a b e x f r =
    ap (λ (v : Event). record a { event = v }) e ∙ ap (λ (v : Answer). record { event = b.event; answer = v; flash = a.flash; refused = a.refused }) x
    ∙ ap (λ (v : SimValue). record { event = b.event; answer = b.answer; flash = v; refused = a.refused }) f ∙ ap (λ (v : Bool). record b { refused = v }) r

first_same : {A : Type 0} (x y : A) (xs ys : List A) → x ∷ xs ≡ y ∷ ys → x ≡ y
first_same x y xs ys e = cc

rest_same : {A : Type 0} (x y : A) (xs ys : List A) → x ∷ xs ≡ y ∷ ys → xs ≡ ys
rest_same x y xs ys e = cc

module _ (defaults : DefaultCodes) where
  next_once : (now : Session) (command : Command) (old : SimValue) (one other : Answer) (a b : SimValue) → IsNextOperation defaults now command old Work one a → IsNextOperation defaults now command old Work other b → a ≡ b
  next_once now command old one other a b x y =
      let same : x.operation ≡ y.operation = same_operation _ x.operation y.operation x.is_next y.is_next in
      operated_once old (on_flash y.operation) a b (subst (λ (o : Operation). IsOperated old (on_flash o) a) same x.makes) y.makes

  pub idle_end : (now : Session) (old armed : SimValue) (work : WorkAnswer) (new : SimValue) → work ≡ Idle → OperatedAs defaults now old armed work new → new ≡ old
  idle_end now old armed Idle new e o = o
  idle_end now old armed Working new e o = cc
  idle_end now old armed Settled new e o = cc
  idle_end now old armed Failed new e o = cc

  end_by : (now : Session) (w : Option Command) (old armed : SimValue) (a b : WorkAnswer) (new other : SimValue) → working defaults now.first now.past ≡ w → WorksIn defaults now old armed a new → WorksIn defaults now old armed b other → SameEnd a b new other
  end_by now None old armed a b new other w x y =
      let one : WorkedOn defaults now.first now.past None a new.image = subst (λ (o : Option Command). WorkedOn defaults now.first now.past o a new.image) w x.conforming in
      let two : WorkedOn defaults now.first now.past None b other.image = subst (λ (o : Option Command). WorkedOn defaults now.first now.past o b other.image) w y.conforming in
      record {
        answer = to_one one.0 two.0;
        flash = to_one (idle_end now old armed a new one.0 x.operated) (idle_end now old armed b other two.0 y.operated);
      }
  end_by now (Some command) old armed a b new other w x y =
      let flash : new ≡ other = next_once now command armed (Worked a) (Worked b) new other (worked defaults now command old armed armed a Work (Worked a) new w (λ reported. refl) refl x) (worked defaults now command old armed armed b Work (Worked b) other w (λ reported. refl) refl y) in
      let one : WorkedOn defaults now.first now.past (Some command) a new.image = subst (λ (o : Option Command). WorkedOn defaults now.first now.past o a new.image) w x.conforming in
      let two : WorkedOn defaults now.first now.past (Some command) b other.image = subst (λ (o : Option Command). WorkedOn defaults now.first now.past o b other.image) w y.conforming in
      record {
        answer = works_once defaults now.first now.past command (call_image now.first now.past) other.image a b (subst (λ (f : SimValue). Works defaults now.first now.past command (call_image now.first now.past) a f.image) flash one) two;
        flash = flash;
      }

  ends_once : (now : Session) (old armed : SimValue) (a b : WorkAnswer) (new other : SimValue) → WorksIn defaults now old armed a new → WorksIn defaults now old armed b other → SameEnd a b new other
  ends_once now old armed a b new other x y = end_by now (working defaults now.first now.past) old armed a b new other refl x y

  -- ---- an event

  answered_once : (now : Session) (heard : List HostCall) (old : SimValue) (event : Event) (a b : Answer) (refused : Bool) (new other : SimValue) → Answered defaults now heard old event a refused new → Answered defaults now heard old event b refused other
      → SameStep a b new other
  answered_once now heard old (Scan scan) a b refused new other (x, u) (y, v) = record { answer = to_one x y; flash = to_one u.0 v.0 }
  answered_once now heard old (Setup bytes) a b refused new other (x, u) (y, v) = record { answer = to_one x y; flash = to_one u.0 v.0 }
  answered_once now heard old (OutPacket packet) a b refused new other (one, x, l, u) (two, y, m, v) =
      let same : one ≡ two = out_once defaults (out_step (stage_after defaults now.first now.past) packet.items) _ _ one two l m in
      record { answer = x ∙ ap as_answer same ∙ sym y; flash = to_one u.0 v.0 }
  answered_once now heard old InPacket a b refused new other (one, x, l, u, r) (two, y, m, v, s) = record { answer = x ∙ ap as_answer (to_one l m) ∙ sym y; flash = to_one u v }
  answered_once now heard old Poll a b refused new other (one, l, u, x) (two, m, v, y) = record { answer = sent_once _ heard one two a b refused (to_one l m) x y; flash = to_one u v }
  answered_once now heard old Work a b refused new other (one, x, w, r) (two, y, v, s) = reported a b one two new other x y (ends_once now old _ one two new other w v)
  answered_once now heard old (WorkFault mask) a b refused new other (one, x, w, r) (two, y, v, s) = reported a b one two new other x y (ends_once now old _ one two new other w v)
  answered_once now heard old Cut a b refused new other (x, u) (y, v) = record { answer = to_one x y; flash = to_one u.0 v.0 }
  answered_once now heard old (CutInWork mask) a b refused new other (one, x, w, r) (two, y, v, s) = record { answer = to_one x y; flash = (ends_once now old _ one two new other w v).flash }
  answered_once now heard old BusReset a b refused new other (x, u) (y, v) = record { answer = to_one x y; flash = to_one u.0 v.0 }
  answered_once now heard old (Entry layer key) a b refused new other (x, u) (y, v) = record { answer = to_one x y; flash = to_one u.0 v.0 }
  answered_once now heard old (SlotAt page slot) a b refused new other (x, u) (y, v) = record { answer = slot_once old.image page slot a b x y; flash = to_one u.0 v.0 }
  answered_once now heard old Leds a b refused new other (x, u) (y, v) = record { answer = to_one x y; flash = to_one u.0 v.0 }

  -- ---- a history

  step_once : (start : SimValue) (before : List Step) (a b : Step) → IsAnswered defaults start before a → IsAnswered defaults start before b → a.event ≡ b.event → a.refused ≡ b.refused → a ≡ b
  step_once start before a b x y e r =
      let now : Session = session start before in
      let as_b : Answered defaults now (host_calls before) (flash_after start before) b.event a.answer b.refused a.flash = rw (← e, ← r) x in
      let s : SameStep a.answer b.answer a.flash b.flash = answered_once now (host_calls before) (flash_after start before) b.event a.answer b.answer b.refused a.flash b.flash as_b y in
      same_step a b e s.answer s.flash r

  pub one_history : (start : SimValue) (a b : List Step) → IsConforming defaults start a → IsConforming defaults start b → map (λ (s : Step). s.event) a ≡ map (λ (s : Step). s.event) b → map (λ (s : Step). s.refused) a ≡ map (λ (s : Step). s.refused) b → a ≡ b
  one_history start [] [] x y e r = refl
  one_history start [] (step ∷ before) x y e r = cc
  one_history start (step ∷ before) [] x y e r = cc
  one_history start (one ∷ before) (two ∷ earlier) x y e r =
      let same : before ≡ earlier = one_history start before earlier x.1 y.1 (rest_same one.event two.event _ _ e) (rest_same one.refused two.refused _ _ r) in
      let at_two : IsAnswered defaults start before two = subst (λ (past : List Step). IsAnswered defaults start past two) (sym same) y.0 in
      let step : one ≡ two = step_once start before one two x.0 at_two (first_same one.event two.event _ _ e) (first_same one.refused two.refused _ _ r) in
      ap (λ (s : Step). s ∷ before) step ∙ ap (λ (past : List Step). two ∷ past) same
