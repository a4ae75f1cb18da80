-- The operations of a command come in their order, and a header comes by its own operation alone.
use Rattle.std.proofs.lemmas.Grind.{common_steps}
use Rattle.std.proofs.Common.{◌≡◌, ◌∙◌, ℕ, Bool, Option, None, Some, List, [], ◌∷◌, refl, sym, ap, subst, arith}
use Rattle.flash_model.specs.Image.{slot_at}
use Rattle.flash_model.specs.Sim.{SimValue}
use Rattle.layers.specs.Codes.{DefaultCodes}
use Rattle.layers.specs.declared.command.Command.{Command}
use Rattle.keymap_store.specs.declared.store.Work.{Work as WorkAnswer}
use Rattle.keymap_store.specs.declared.store.Work.TheVariants.{Idle, Working, Settled, Failed}
use Rattle.host.specs.Calls.{HostCall}
use Rattle.keyboard.specs.Bounded.{steps_since}
use Rattle.keyboard.specs.Calls.{image_after as call_image}
use Rattle.keyboard.specs.Commands.{working}
use Rattle.keyboard.specs.Headers.{stood, OwnHeaders}
use Rattle.keyboard.specs.Conforming.{WorkedOn}
use Rattle.keyboard.specs.Operated.{Works}
use Rattle.keyboard.proofs.Heading.{headers_are_own}
use Rattle.world.specs.declared.event.Event.{Event}
use Rattle.world.specs.declared.event.Event.TheVariants.{Scan, Setup, OutPacket, InPacket, Poll, Work, WorkFault, Cut, CutInWork, BusReset, Entry, SlotAt, Leds}
use Rattle.world.specs.declared.event.Answer.{Answer}
use Rattle.world.specs.declared.event.Answer.TheVariants.{Worked}
use Rattle.world.specs.Kinds.{Step}
use Rattle.world.specs.History.{Session, session, host_calls, flash_after, EachStep}
use Rattle.world.specs.Conforming.{Answered, IsAnswered, OperatedAs, MakesOn, WorksIn}
use Rattle.world.specs.Order.{found_by, TellsEnd, operations_in, EndsBy, IsNextOperation, WorksInOrder, WritesOwnHeader}
use Rattle.world.proofs.Here.{Here, here}

same_command : (w : Option Command) (a b : Command) → w ≡ Some a → w ≡ Some b → a ≡ b
same_command w a b e f = cc

same_flash : (a b : SimValue) → Some a ≡ Some b → a ≡ b
same_flash a b e = cc

-- a step that is none of the flash work
no_step : (A : Type 0) (flash : SimValue) → None ≡ Some flash → A
no_step A flash e = cc

module _ (defaults : DefaultCodes) where
  -- how a step ends
  ends_by : (now : Session) (command : Command) (work : WorkAnswer) (new : List ℕ) (w : Works defaults now.first now.past command (call_image now.first now.past) work new) → EndsBy (operations_in defaults now command) (steps_since now.past) w.operation new (Worked work)
  ends_by now command Idle new w = absurd w.outcome
  ends_by now command Working new w =
      let all = w.advances.needed_is in
      let few = (w.advances.before_last refl).0 in
      record { goes_on = λ r l. refl; settles = λ r l. absurd (omega (arith, all, few, l)); fails = λ n. absurd (n (w.attempts.done (λ e. cc)).1) }
  ends_by now command Settled new w =
      let all = w.advances.needed_is in
      let last = w.advances.last refl in
      record { goes_on = λ r l. absurd (omega (arith, all, last, l)); settles = λ r l. refl; fails = λ n. absurd (n (w.attempts.done (λ e. cc)).1) }
  ends_by now command Failed new w = record {
    goes_on = λ r l. absurd ((w.attempts.torn refl).1 r);
    settles = λ r l. absurd ((w.attempts.torn refl).1 r);
    fails = λ n. refl;
  }

  next_of : (now : Session) (command : Command) (old : SimValue) (work : WorkAnswer) (event : Event) (answer : Answer) (new : SimValue) → working defaults now.first now.past ≡ Some command → (TellsEnd event → answer ≡ Worked work) → MakesOn defaults now old work new
      → IsNextOperation defaults now command old event answer new
  next_of now command old work event answer new w t m =
      let same : m.command ≡ command = same_command (working defaults now.first now.past) m.command command m.works_on w in
      let ends : EndsBy (operations_in defaults now m.command) (steps_since now.past) m.step.operation new.image (Worked work) = ends_by now m.command work new.image m.step in
      record {
        operation = m.step.operation;
        is_next = rw (← same) m.step.advances.in_order;
        makes = m.is_such;
        ends = λ reported. rw (← same, t reported) ends;
      }

  by_answer : (now : Session) (command : Command) (before old : SimValue) (work : WorkAnswer) (event : Event) (answer : Answer) (new : SimValue) → working defaults now.first now.past ≡ Some command → (TellsEnd event → answer ≡ Worked work)
      → WorkedOn defaults now.first now.past (Some command) work new.image → OperatedAs defaults now before old work new → IsNextOperation defaults now command old event answer new
  by_answer now command before old Idle event answer new w t on o = absurd on.outcome
  by_answer now command before old Working event answer new w t on o = next_of now command old Working event answer new w t o
  by_answer now command before old Settled event answer new w t on o = next_of now command old Settled event answer new w t o
  by_answer now command before old Failed event answer new w t on o = next_of now command old Failed event answer new w t o.0

  pub worked : (now : Session) (command : Command) (before found old : SimValue) (work : WorkAnswer) (event : Event) (answer : Answer) (new : SimValue) → working defaults now.first now.past ≡ Some command → (TellsEnd event → answer ≡ Worked work) → Some found ≡ Some old
      → WorksIn defaults now before found work new → IsNextOperation defaults now command old event answer new
  worked now command before found old work event answer new w t e on =
      subst (λ (x : SimValue). IsNextOperation defaults now command x event answer new) (same_flash found old e)
      (by_answer now command before found work event answer new w t (subst (λ (o : Option Command). WorkedOn defaults now.first now.past o work new.image) w on.conforming) on.operated)

  in_order : (now : Session) (heard : List HostCall) (before : SimValue) (event : Event) (answer : Answer) (refused : Bool) (new : SimValue) (command : Command) (old : SimValue) → Answered defaults now heard before event answer refused new
      → working defaults now.first now.past ≡ Some command → found_by event before ≡ Some old → IsNextOperation defaults now command old event answer new
  in_order now heard before event answer refused new command old a w e = grind (arith, common_steps, no_step, worked)

  pub works_in_order : (start : SimValue) (history : List Step) → EachStep (IsAnswered defaults) start history → EachStep (WorksInOrder defaults) start history
  works_in_order start [] h = tt
  works_in_order start (step ∷ before) h = (
    (λ command old w e. in_order (session start before) (host_calls before) (flash_after start before) step.event step.answer step.refused step.flash command old h.0 w e),
    works_in_order start before h.1,
  )

  -- ---- headers

  kept : (now : Session) (old new : SimValue) → Here defaults now old → new ≡ old → OwnHeaders defaults now.first now.past new.image
  kept now old new h e i j page seq l has = stood (ap (λ (image : List ℕ). slot_at image page 0) (ap (λ (x : SimValue). x.image) e ∙ sym h.image))

  own : (now : Session) (heard : List HostCall) (old : SimValue) (event : Event) (answer : Answer) (refused : Bool) (new : SimValue) → Here defaults now old → Answered defaults now heard old event answer refused new → OwnHeaders defaults now.first now.past new.image
  own now heard old (Scan scan) answer refused new h a = kept now old new h a.1.0
  own now heard old (Setup bytes) answer refused new h a = kept now old new h a.1.0
  own now heard old (OutPacket packet) answer refused new h (by_ep, e, l, u) = kept now old new h u.0
  own now heard old InPacket answer refused new h (by_ep, e, l, f, m) = kept now old new h f
  own now heard old Poll answer refused new h (report, l, f, s) = kept now old new h f
  own now heard old Work answer refused new h (work, e, w, r) = headers_are_own defaults now.first now.past work new.image w.conforming
  own now heard old (WorkFault mask) answer refused new h (work, e, w, r) = headers_are_own defaults now.first now.past work new.image w.conforming
  own now heard old Cut answer refused new h a = kept now old new h a.1.0
  own now heard old (CutInWork mask) answer refused new h (work, e, w, r) = headers_are_own defaults now.first now.past work new.image w.conforming
  own now heard old BusReset answer refused new h a = kept now old new h a.1.0
  own now heard old (Entry layer key) answer refused new h a = kept now old new h a.1.0
  own now heard old (SlotAt page slot) answer refused new h a = kept now old new h a.1.0
  own now heard old Leds answer refused new h a = kept now old new h a.1.0

  pub writes_own_header : (start : SimValue) (history : List Step) → EachStep (IsAnswered defaults) start history → EachStep (WritesOwnHeader defaults) start history
  writes_own_header start [] h = tt
  writes_own_header start (step ∷ before) h = (
    own (session start before) (host_calls before) (flash_after start before) step.event step.answer step.refused step.flash (here defaults start before h.1) h.0,
    writes_own_header start before h.1,
  )
