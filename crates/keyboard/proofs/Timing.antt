-- A command is settled, or fails, within the most steps that one takes: what it needed when it was accepted says so.
use Rattle.std.proofs.Common.{◌≡◌, ℕ, suc, ◌≤◌, IsSome, Option, Some, None, List, [], ◌∷◌, refl, subst, arith, inl, inr}
use Rattle.std.proofs.lemmas.Bool.{cases_lt}
use Rattle.layers.specs.Codes.{DefaultCodes}
use Rattle.layers.specs.declared.command.Command.{Command}
use Rattle.page_turnover.specs.Value.{Unread, Wait}
use Rattle.page_turnover.specs.Words.{HasRoom, IsBlank}
use Rattle.page_turnover.specs.Turn.{target_page}
use Rattle.keymap_store.specs.declared.store.Job.TheVariants.{Turning}
use Rattle.keymap_store.specs.declared.store.Work.{Work as WorkAnswer}
use Rattle.keymap_store.specs.declared.store.Work.TheVariants.{Idle, Working, Settled, Failed}
use Rattle.keymap_store.specs.Left.{turn_left, Needs}
use Rattle.keymap_store.proofs.Counting.{needs_turn, few_left}
use Rattle.keymap_store.proofs.Ordering.{needs_all}
use Rattle.keyboard.specs.Bounded.{steps_since, accepted_image, IsInTime}
use Rattle.keyboard.specs.Calls.{Call, Scanned, SetUp, Out, In, Polled, Worked, BusReset, EachCall}
use Rattle.keyboard.specs.Commands.{accepts, working}
use Rattle.keyboard.specs.Fate.{works, settled, failed}
use Rattle.keyboard.specs.Conforming.{IsAnswered as IsCallAnswered, WorkedOn}
use Rattle.keyboard.proofs.Accepting.{EndsNone}
use Rattle.keyboard.proofs.Bounding.{steps_since-same, steps_since-more, steps_since-none}
use Rattle.keyboard.proofs.Effects.{Effect, stays, takes, settles, fails, effect}
use Rattle.keyboard.proofs.Sessions.{Orderly, orderly, working_after, after_stays, after_settles, after_fails}

none_works : (o : Option Command) (A : Type 0) → o ≡ None → IsSome o → A
none_works o A e s = cc

module _ (defaults : DefaultCodes) where
  turn_few : (image : List ℕ) (command : Command) → turn_left defaults image Unread ≤ 387
  turn_few image command = few_left defaults image (record { active = None; unsound = None; task = Wait Unread }) (Turning command 0)

  -- what a command needs is never more than an erase, 384 copies, a header and a record
  needs_few : (image : List ℕ) (count : ℕ) (command : Command) → Needs defaults image count → count ≤ 387
  needs_few image count command n =
      elim (cases_lt 387 count) [
        | inl l ↦
            let few = turn_few image command in
            let full : HasRoom image → ⊥ = λ r. omega (arith, n.room r, l) in
            let turn = needs_turn defaults image full in
            let used : IsBlank image (target_page image) → ⊥ = λ b. omega (arith, n.blank full b, turn.blank full b, few, l) in
            absurd (omega (arith, n.used full used, turn.used full used, few, l))
        | inr m ↦ m
      ]

  -- a step of the flash work after which the command works on
  worked_on : (start : List ℕ) (before : List Call) (w : Option Command) (work : WorkAnswer) (image : List ℕ) → WorkedOn defaults start before w work image → IsSome w
      → EndsNone defaults (Worked work image) → suc (suc (steps_since before)) ≤ 387
  worked_on start before None work image h s k = cc
  worked_on start before (Some command) Idle image h s k = absurd h.outcome
  worked_on start before (Some command) Settled image h s k = (let ends : settled ≡ works = k.keeps works in cc)
  worked_on start before (Some command) Failed image h s k = (let ends : failed ≡ works = k.keeps works in cc)
  worked_on start before (Some command) Working image h s k =
      let left = (h.advances.before_last refl).0 in
      let needs : Needs defaults (accepted_image start before) h.advances.needed = rw h.advances.needed_is (needs_all defaults (accepted_image start before) command) in
      let few : h.advances.needed ≤ 387 = needs_few (accepted_image start before) h.advances.needed command needs in
      omega (arith, left, few)

  -- a call that ends and accepts none
  by_call : (start : List ℕ) (before : List Call) (call : Call) → IsCallAnswered defaults start before call → EndsNone defaults call → accepts before call ≡ None
      → IsInTime defaults start before → IsSome (working defaults start before) → suc (steps_since (call ∷ before)) ≤ 387
  by_call start before (Scanned scan) a k n t s = (let e = steps_since-same (Scanned scan) before (λ count. refl) n in omega (arith, e, t s))
  by_call start before (SetUp bytes) a k n t s = (let e = steps_since-same (SetUp bytes) before (λ count. refl) n in omega (arith, e, t s))
  by_call start before (Out packet answer) a k n t s = (let e = steps_since-same (Out packet answer) before (λ count. refl) n in omega (arith, e, t s))
  by_call start before (In answer) a k n t s = (let e = steps_since-same (In answer) before (λ count. refl) n in omega (arith, e, t s))
  by_call start before (Polled answer) a k n t s = (let e = steps_since-same (Polled answer) before (λ count. refl) n in omega (arith, e, t s))
  by_call start before BusReset a k n t s = (let e = steps_since-same BusReset before (λ count. refl) n in omega (arith, e, t s))
  by_call start before (Worked work image) a k n t s =
      let e = steps_since-more (Worked work image) before (λ count. refl) n in
      let few = worked_on start before (working defaults start before) work image a s k in
      omega (arith, e, few)

  in_time_more : (start : List ℕ) (before : List Call) (call : Call) → Orderly defaults start before → IsCallAnswered defaults start before call → Effect defaults start before call → IsInTime defaults start before → IsInTime defaults start (call ∷ before)
  in_time_more start before call o a (stays k n e) t s =
      let same : working defaults start (call ∷ before) ≡ working defaults start before = working_after defaults start before call (working defaults start before) (after_stays defaults start before call o k n e) in
      let some : IsSome (working defaults start before) = subst (λ (x : Option Command). IsSome x) same s in
      by_call start before call a k n t some
  in_time_more start before call o a (takes command k n e f) t s = (let none = steps_since-none call before command n in omega (arith, none))
  in_time_more start before call o a (settles command k n w e) t s =
      none_works (working defaults start (call ∷ before)) _ (working_after defaults start before call None (after_settles defaults start before call command o k n w e)) s
  in_time_more start before call o a (fails command k n w e) t s =
      none_works (working defaults start (call ∷ before)) _ (working_after defaults start before call None (after_fails defaults start before call command o k n w e)) s

  nothing_works : (start : List ℕ) → IsInTime defaults start []
  unfolding steps_since
  nothing_works start s = omega arith

  pub in_time : (start : List ℕ) (past : List Call) → EachCall (IsCallAnswered defaults) start past → IsInTime defaults start past
  in_time start [] h = nothing_works start
  in_time start (call ∷ before) h = in_time_more start before call (orderly defaults start before h.1) h.0 (effect defaults start before call h.0) (in_time start before h.1)
