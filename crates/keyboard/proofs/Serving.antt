-- An accepted command is settled by the step that its operations name, whatever comes between, and its status stage waits for it.
use Rattle.std.proofs.Common.{◌≡◌, ◌≢◌, ℕ, suc, ◌<◌, ◌≤◌, ◌==◌, ◌||◌, Bool, true, false, nat_lt, if◌then◌else◌, Option, Some, None, List, [], ◌∷◌, ◌++◌, length, drop, refl, ap, sym, ◌∙◌, subst, arith}
use Rattle.std.specs.List.{list_any}
use Rattle.std.proofs.lemmas.Bool.Decides.{nat_tests}
use Rattle.std.proofs.lemmas.List.{length-append}
use Rattle.layers.specs.Codes.{DefaultCodes}
use Rattle.layers.specs.Commands.{word_of}
use Rattle.layers.specs.declared.command.Command.{Command}
use Rattle.page_turnover.specs.Active.{active, format}
use Rattle.page_turnover.specs.Turn.{target_page}
use Rattle.page_turnover.specs.declared.operation.Operation.{Operation}
use Rattle.control_ep.specs.declared.why.Why.{Why}
use Rattle.control_ep.specs.declared.answer.EpAnswer.{EpAnswer}
use Rattle.control_ep.specs.declared.answer.EpAnswer.TheVariants.{Ack, Nak, Packet}
use Rattle.control_ep.specs.declared.answer.OutStep.{OutStep}
use Rattle.control_ep.specs.declared.answer.OutStep.TheVariants.{Answered, Leds, Offer}
use Rattle.control_ep.specs.Answers.{in_answer, out_step}
use Rattle.control_ep.specs.Calls.{EpCall}
use Rattle.control_ep.specs.Stage.{LastSetup, Begins, calls_since, last_setup, first_stall, reason_in, acknowledges, is_ack, is_empty_in, is_empty_packet, CommandState, after_command, progress_of, unless_stalled, stage_with, stage}
use Rattle.control_ep.specs.Transfers.{FeatureData, Takes, Stage, Taking}
use Rattle.control_ep.proofs.Stages.{stage-is}
use Rattle.keymap_store.specs.declared.store.Work.{Work as WorkAnswer}
use Rattle.keymap_store.specs.declared.store.Work.TheVariants.{Idle, Working, Settled, Failed}
use Rattle.keymap_store.specs.Next.{all_copies}
use Rattle.keymap_store.specs.Operations.{operations_of, has_room, has_room_on, record_on, erase_if_used, programs_from, turn_and_record}
use Rattle.keyboard.specs.Acknowledged.{SameTransfer}
use Rattle.keyboard.specs.Bounded.{counted, steps_since, accepted_image}
use Rattle.keyboard.specs.Calls.{Call, Scanned, SetUp, Out, In, Polled, Worked, BusReset, image_after, keymap, EachCall}
use Rattle.keyboard.specs.Commands.{accepts, working}
use Rattle.keyboard.specs.Conforming.{IsAnswered, WorkedOn}
use Rattle.keyboard.specs.Endpoint.{ep_calls, stage_after, with_out}
use Rattle.keyboard.specs.Fate.{Fate, works, settled, failed, fate, fate_after, changes, ended_by}
use Rattle.keyboard.specs.Operated.{Works}
use Rattle.keyboard.specs.Progress.{steps_in, steps_for, StaysOpen}
use Rattle.keyboard.specs.Single.{NoneFails}
use Rattle.keyboard.proofs.Accepting.{ended_by-settled}
use Rattle.keyboard.proofs.Bounding.{steps_since-same, steps_since-more, steps_since-none, accepted_image-same, accepted_image-now}
use Rattle.keyboard.proofs.Effects.{Accepts, accepted_by, Effect, stays, takes, settles, fails, effect}
use Rattle.keyboard.proofs.Sessions.{Orderly, orderly, working_after, after_stays, after_takes, AfterTaken, now_works, changed_nothing}
use Rattle.keyboard.proofs.Telling.{EachCall-later, or_false, IsOut, accepts_out, TakenBy, taken_between, taken_stage, state_reported, IsDue, due_at_packet}

-- ---- a command takes a step

some_record : (image : List ℕ) (place : Option (ℕ × ℕ)) (format : Option ℕ) (word : ℕ) → has_room_on image place format ≡ true → 1 ≤ length (record_on image place word)
some_record image None format word e = cc
some_record image (Some place) format word e = omega arith

some_by : (b : Bool) (alone turn : List Operation) → (b ≡ true → 1 ≤ length alone) → 1 ≤ length turn → 1 ≤ length (if b then alone else turn)
some_by true alone turn r t = r refl
some_by false alone turn r t = t

some_last : (first second : List Operation) (header last : Operation) → 1 ≤ length (first ++ (second ++ header ∷ last ∷ []))
some_last first second header last = omega (arith, length-append first (second ++ header ∷ last ∷ []), length-append second (header ∷ last ∷ []))

-- ---- small facts

works_not_settled : works ≡ settled → ⊥
works_not_settled e = cc

works_not_failed : works ≡ failed → ⊥
works_not_failed e = cc

not_changed : (b : Bool) → b ≡ true → b ≡ false → ⊥
not_changed b t f = cc

is_less : (made needed : ℕ) → made < needed → nat_lt made needed ≡ true
is_less made needed l = grind (arith, l, nat_tests)

is_no_less : (made needed : ℕ) → needed ≤ made → nat_lt made needed ≡ false
is_no_less made needed l = grind (arith, l, nat_tests)

-- what a step that did not fail is answered, by whether it is the last
record Answers (work : WorkAnswer) (made needed : ℕ) : Type 0 where
  goes_on : suc made < needed → work ≡ Working
  ends : suc made ≡ needed → work ≡ Settled

step_answer : (work : WorkAnswer) (made needed : ℕ) → suc made ≤ needed → Answers work made needed → (last : Bool) → (suc made == needed) ≡ last → work ≡ (if last then Settled else Working)
step_answer work made needed l a true e = a.ends (grind (arith, e, nat_tests))
step_answer work made needed l a false e = a.goes_on (grind (arith, l, e, nat_tests))

-- a call that is no flash work
record NoWork (defaults : DefaultCodes) (call : Call) : Type 0 where
  count : (n : ℕ) → counted call n ≡ n
  keeps : (f : Fate) → ended_by defaults call f ≡ f

-- ---- the endpoint

-- none of the packets since the SETUP packet was stalled, and the empty packet was not given
record IsUnspoilt (calls : List EpCall) : Type 0 where
  unstalled : first_stall (calls_since calls) ≡ None
  unconfirmed : list_any is_empty_in (calls_since calls) ≡ false

-- before a feature report is taken the empty packet is not given
abbrev IsFresh : List EpCall → Type 0
IsFresh calls = (n : ℕ) → last_setup calls ≡ Begins (Takes FeatureData) n → list_any acknowledges (calls_since calls) ≡ false → list_any is_empty_in (calls_since calls) ≡ false

no_empty : (stalled : Option Why) (taken confirmed : Bool) (state : CommandState) (answer : EpAnswer)
    → answer ≡ in_answer (unless_stalled stalled (if taken then after_command state confirmed else Taking FeatureData)) → taken ≡ false → is_empty_packet answer ≡ false
no_empty (Some why) taken confirmed state answer e f = ap is_empty_packet e
no_empty None false confirmed state answer e f = ap is_empty_packet e
no_empty None true confirmed state answer e f = cc

neither : (a b : Bool) → a ≡ false → b ≡ false → (a || b) ≡ false
neither a b e f = rw (e, f) refl

fresh_in : (calls : List EpCall) (answer : EpAnswer) (n : ℕ) → answer ≡ in_answer (stage calls) → last_setup calls ≡ Begins (Takes FeatureData) n → list_any acknowledges (calls_since calls) ≡ false → is_empty_packet answer ≡ false
fresh_in calls answer n a s t =
    no_empty (first_stall (calls_since calls)) (list_any acknowledges (calls_since calls)) (list_any is_empty_in (calls_since calls)) (progress_of (calls_since calls)).command answer
    (a ∙ ap in_answer (stage-is calls ∙ ap (λ (last : LastSetup). unless_stalled (first_stall (calls_since calls)) (stage_with last (progress_of (calls_since calls)))) s)) t

-- the answer of a status stage that nothing spoilt
status_answer : (changing waits : Bool) (f : Fate) → (if changing then f else settled) ≡ (if waits then works else settled)
    → in_answer (after_command (state_reported changing f) false) ≡ (if waits then Nak else Packet (record { items = [] }))
status_answer true true works e = refl
status_answer true true settled e = cc
status_answer true true failed e = cc
status_answer true false works e = cc
status_answer true false settled e = refl
status_answer true false failed e = cc
status_answer false true f e = cc
status_answer false false f e = refl

-- it is no STALL, and not the empty packet unless that is given
no_stall : (waits : Bool) (answer : EpAnswer) → answer ≡ (if waits then Nak else Packet (record { items = [] })) → answer ≢ Packet (record { items = [] }) → (reason_in answer ≡ None) × (is_empty_packet answer ≡ false)
no_stall true answer e n = (ap reason_in e, ap is_empty_packet e)
no_stall false answer e n = absurd (n e)

same_transfer : (between : List Call) → StaysOpen between → SameTransfer between
same_transfer [] o = tt
same_transfer (Scanned scan ∷ between) o = same_transfer between o
same_transfer (SetUp bytes ∷ between) o = absurd o
same_transfer (Out packet answer ∷ between) o = absurd o
same_transfer (In answer ∷ between) o = same_transfer between o.1
same_transfer (Polled answer ∷ between) o = same_transfer between o
same_transfer (Worked work image ∷ between) o = same_transfer between o
same_transfer (BusReset ∷ between) o = absurd o

module _ (defaults : DefaultCodes) where
  pub some_operation : (image : List ℕ) (command : Command) → 1 ≤ length (operations_of defaults image command)
  unfolding operations_of has_room
  some_operation image command =
      some_by (has_room_on image (active image) (format image)) (record_on image (active image) (word_of command)) (turn_and_record image (all_copies defaults (keymap defaults image)) (word_of command))
      (some_record image (active image) (format image) (word_of command))
      (some_last (erase_if_used image (target_page image)) (programs_from (target_page image) 1 (all_copies defaults (keymap defaults image))) _ _)

  -- ---- where a command stands that changes something, by the calls since it was accepted

  data Stands (start image : List ℕ) (command : Command) (past since : List Call) : Type 0 where
    at_work : steps_in since < length (operations_of defaults image command) → working defaults start past ≡ Some command → steps_since past ≡ steps_in since → accepted_image start past ≡ image
        → fate_after defaults since ≡ works → Stands start image command past since
    is_done : length (operations_of defaults image command) ≤ steps_in since → fate_after defaults since ≡ settled → Stands start image command past since

  still : (start image : List ℕ) (command : Command) (past since : List Call) (call : Call) → NoWork defaults call → Orderly defaults start past → Effect defaults start past call → Stands start image command past since
      → Stands start image command (call ∷ past) (call ∷ since)
  still start image command past since call n o e (is_done l f) = is_done (rw (n.count (steps_in since)) l) (ap (ended_by defaults call) f ∙ n.keeps settled)
  still start image command past since call n o (stays k a s) (at_work l w m i f) =
      at_work (rw (n.count (steps_in since)) l) (working_after defaults start past call (working defaults start past) (after_stays defaults start past call o k a s) ∙ w)
      (steps_since-same call past n.count a ∙ m ∙ sym (n.count (steps_in since))) (accepted_image-same start call past a ∙ i) (ap (ended_by defaults call) f ∙ n.keeps works)
  still start image command past since call n o (takes other k a s free) (at_work l w m i f) = absurd (free (rw w refl))
  still start image command past since call n o (settles other k a v s) (at_work l w m i f) = absurd (works_not_settled (sym (n.keeps works) ∙ k))
  still start image command past since call n o (fails other k a v s) (at_work l w m i f) = absurd (works_not_failed (sym (n.keeps works) ∙ k))

  on_command : (start : List ℕ) (past : List Call) (command : Command) (o : Option Command) (work : WorkAnswer) (new : List ℕ) → o ≡ Some command → WorkedOn defaults start past o work new → Works defaults start past command (image_after start past) work new
  on_command start past command o work new e w = (let x : WorkedOn defaults start past (Some command) work new = subst (λ (p : Option Command). WorkedOn defaults start past p work new) e w in x)

  by_work : (start : List ℕ) (past : List Call) (command : Command) (old : List ℕ) (work : WorkAnswer) (new : List ℕ) → work ≢ Failed → Works defaults start past command old work new
      → Answers work (steps_since past) (length (operations_of defaults (accepted_image start past) command))
  by_work start past command old Idle new f w = absurd w.outcome
  by_work start past command old Working new f w =
      let all = w.advances.needed_is in
      let few = (w.advances.before_last refl).0 in
      record { goes_on = λ l. refl; ends = λ l. absurd (omega (arith, all, few, l)) }
  by_work start past command old Settled new f w =
      let all = w.advances.needed_is in
      let last = w.advances.last refl in
      record { goes_on = λ l. absurd (omega (arith, all, last, l)); ends = λ l. refl }
  by_work start past command old Failed new f w = absurd (f refl)

  answers_of : (start image : List ℕ) (command : Command) (past since : List Call) (work : WorkAnswer) (new : List ℕ) → work ≢ Failed → IsAnswered defaults start past (Worked work new)
      → working defaults start past ≡ Some command → steps_since past ≡ steps_in since → accepted_image start past ≡ image → Answers work (steps_in since) (length (operations_of defaults image command))
  answers_of start image command past since work new f a w m i =
      let by = by_work start past command (image_after start past) work new f (on_command start past command (working defaults start past) work new w a) in
      let made : Answers work (steps_in since) (length (operations_of defaults (accepted_image start past) command)) =
      subst (λ (n : ℕ). Answers work n (length (operations_of defaults (accepted_image start past) command))) m by in
      subst (λ (old : List ℕ). Answers work (steps_in since) (length (operations_of defaults old command))) i made

  stepped : (start image : List ℕ) (command : Command) (past since : List Call) (work : WorkAnswer) (new : List ℕ) → Orderly defaults start past → Effect defaults start past (Worked work new) → steps_in since < length (operations_of defaults image command)
      → working defaults start past ≡ Some command → steps_since past ≡ steps_in since → accepted_image start past ≡ image → fate_after defaults since ≡ works
      → Answers work (steps_in since) (length (operations_of defaults image command)) → work ≢ Failed → Stands start image command (Worked work new ∷ past) (Worked work new ∷ since)
  stepped start image command past since work new o (stays k a s) l w m i f t n =
      by_last (suc (steps_in since) == length (operations_of defaults image command)) refl
    where
      by_last : (last : Bool) → (suc (steps_in since) == length (operations_of defaults image command)) ≡ last → Stands start image command (Worked work new ∷ past) (Worked work new ∷ since)
      by_last true e =
          let settled_now : work ≡ Settled = t.ends (grind (arith, e, nat_tests)) in
          absurd (works_not_settled (sym (k.keeps works) ∙ ap (λ (x : WorkAnswer). ended_by defaults (Worked x new) works) settled_now))
      by_last false e =
          at_work (grind (arith, l, e, nat_tests)) (working_after defaults start past (Worked work new) (working defaults start past) (after_stays defaults start past (Worked work new) o k a s) ∙ w)
          (steps_since-more (Worked work new) past (λ count. refl) a ∙ ap suc m) (accepted_image-same start (Worked work new) past a ∙ i) (ap (ended_by defaults (Worked work new)) f ∙ k.keeps works)
  stepped start image command past since work new o (takes other k a s free) l w m i f t n = absurd (free (rw w refl))
  stepped start image command past since work new o (settles other k a v s) l w m i f t n =
      by_last (suc (steps_in since) == length (operations_of defaults image command)) refl
    where
      by_last : (last : Bool) → (suc (steps_in since) == length (operations_of defaults image command)) ≡ last → Stands start image command (Worked work new ∷ past) (Worked work new ∷ since)
      by_last true e = is_done (grind (arith, e, nat_tests)) (ap (ended_by defaults (Worked work new)) f ∙ k)
      by_last false e =
          let works_now : work ≡ Working = t.goes_on (grind (arith, l, e, nat_tests)) in
          absurd (works_not_settled (sym (ap (λ (x : WorkAnswer). ended_by defaults (Worked x new) works) works_now) ∙ k))
  stepped start image command past since Idle new o (fails other k a v s) l w m i f t n = absurd (works_not_failed k)
  stepped start image command past since Working new o (fails other k a v s) l w m i f t n = absurd (works_not_failed k)
  stepped start image command past since Settled new o (fails other k a v s) l w m i f t n = cc
  stepped start image command past since Failed new o (fails other k a v s) l w m i f t n = absurd (n refl)

  one_step : (start image : List ℕ) (command : Command) (past since : List Call) (work : WorkAnswer) (new : List ℕ) → work ≢ Failed → EachCall (IsAnswered defaults) start (Worked work new ∷ past) → Stands start image command past since
      → Stands start image command (Worked work new ∷ past) (Worked work new ∷ since)
  one_step start image command past since work new n h (is_done l f) = is_done (omega (arith, l)) (ap (ended_by defaults (Worked work new)) f ∙ ended_by-settled defaults (Worked work new))
  one_step start image command past since work new n h (at_work l w m i f) =
      stepped start image command past since work new (orderly defaults start past h.1) (effect defaults start past (Worked work new) h.0) l w m i f (answers_of start image command past since work new n h.0 w m i) n

  other : (start image : List ℕ) (command : Command) (past since : List Call) (call : Call) → NoWork defaults call → EachCall (IsAnswered defaults) start (call ∷ past) → Stands start image command past since
      → Stands start image command (call ∷ past) (call ∷ since)
  other start image command past since call n h s = still start image command past since call n (orderly defaults start past h.1) (effect defaults start past call h.0) s

  stands : (start image : List ℕ) (command : Command) (base since : List Call) → Stands start image command base [] → NoneFails since → EachCall (IsAnswered defaults) start (since ++ base) → Stands start image command (since ++ base) since
  stands start image command base [] s n h = s
  stands start image command base (Scanned scan ∷ since) s n h = other start image command (since ++ base) since (Scanned scan) (record { count = λ k. refl; keeps = λ f. refl }) h (stands start image command base since s n h.1)
  stands start image command base (SetUp bytes ∷ since) s n h = other start image command (since ++ base) since (SetUp bytes) (record { count = λ k. refl; keeps = λ f. refl }) h (stands start image command base since s n h.1)
  stands start image command base (Out packet answer ∷ since) s n h = other start image command (since ++ base) since (Out packet answer) (record { count = λ k. refl; keeps = λ f. refl }) h (stands start image command base since s n h.1)
  stands start image command base (In answer ∷ since) s n h = other start image command (since ++ base) since (In answer) (record { count = λ k. refl; keeps = λ f. refl }) h (stands start image command base since s n h.1)
  stands start image command base (Polled answer ∷ since) s n h = other start image command (since ++ base) since (Polled answer) (record { count = λ k. refl; keeps = λ f. refl }) h (stands start image command base since s n h.1)
  stands start image command base (Worked work new ∷ since) s n h = one_step start image command (since ++ base) since work new n.0 h (stands start image command base since s n.1 h.1)
  stands start image command base (BusReset ∷ since) s n h = other start image command (since ++ base) since BusReset (record { count = λ k. refl; keeps = λ f. refl }) h (stands start image command base since s n h.1)

  -- where it was accepted
  stands_first : (start : List ℕ) (past : List Call) (packet : Call) (command : Command) → Orderly defaults start past → Effect defaults start past packet → accepts past packet ≡ Some command
      → changes defaults (keymap defaults (image_after start past)) command ≡ true → Stands start (image_after start past) command (packet ∷ past) []
  stands_first start past packet command o (stays k a s) e c = cc
  stands_first start past packet command o (settles other k a v s) e c = cc
  stands_first start past packet command o (fails other k a v s) e c = cc
  stands_first start past packet command o (takes other k a s free) e c = by_taken (after_takes defaults start past packet command o k e s free)
    where
      by_taken : AfterTaken defaults start past packet command → Stands start (image_after start past) command (packet ∷ past) []
      by_taken (now_works d h) =
          at_work (some_operation (image_after start past) command) (working_after defaults start past packet (Some command) h) (steps_since-none packet past command e) (accepted_image-now start packet past command e) refl
      by_taken (changed_nothing d h) = absurd (not_changed (changes defaults (keymap defaults (image_after start past)) command) c d)

  stands_since : (start : List ℕ) (past since : List Call) (packet : Call) (command : Command) → EachCall (IsAnswered defaults) start (since ++ packet ∷ past) → accepts past packet ≡ Some command → NoneFails since
      → changes defaults (keymap defaults (image_after start past)) command ≡ true → Stands start (image_after start past) command (since ++ packet ∷ past) since
  stands_since start past since packet command h e n c =
      let here : EachCall (IsAnswered defaults) start (packet ∷ past) = EachCall-later (IsAnswered defaults) start since (packet ∷ past) h in
      stands start (image_after start past) command (packet ∷ past) since (stands_first start past packet command (orderly defaults start past here.1) (effect defaults start past packet here.0) e c) n h

  by_stands : (start image : List ℕ) (command : Command) (past since : List Call) → Stands start image command past since → fate_after defaults since ≡ (if nat_lt (steps_in since) (length (operations_of defaults image command)) then works else settled)
  by_stands start image command past since (at_work l w m i f) = rw (is_less (steps_in since) (length (operations_of defaults image command)) l) f
  by_stands start image command past since (is_done l f) = rw (is_no_less (steps_in since) (length (operations_of defaults image command)) l) f

  -- ---- it works until the step that its operations name, and is settled from then on
  pub settled_by : (start : List ℕ) (past since : List Call) (packet : Call) (command : Command) → EachCall (IsAnswered defaults) start (since ++ packet ∷ past) → accepts past packet ≡ Some command → NoneFails since
      → fate defaults (keymap defaults (image_after start past)) command since ≡ (if nat_lt (steps_in since) (steps_for defaults (image_after start past) command) then works else settled)
  settled_by start past since packet command h e n = by_change (changes defaults (keymap defaults (image_after start past)) command) refl
    where
      needed : ℕ
      needed = length (operations_of defaults (image_after start past) command)

      by_change : (change : Bool) → changes defaults (keymap defaults (image_after start past)) command ≡ change
          → (if change then fate_after defaults since else settled) ≡ (if nat_lt (steps_in since) (if change then needed else 0) then works else settled)
      by_change true c = by_stands start (image_after start past) command (since ++ packet ∷ past) since (stands_since start past since packet command h e n c)
      by_change false c = rw (is_no_less (steps_in since) 0 (omega arith)) refl

  -- each step until then is answered so
  pub answered_by : (start : List ℕ) (past since : List Call) (packet : Call) (command : Command) (work : WorkAnswer) (new : List ℕ) → EachCall (IsAnswered defaults) start (Worked work new ∷ since ++ packet ∷ past)
      → accepts past packet ≡ Some command → NoneFails (Worked work new ∷ since) → suc (steps_in since) ≤ steps_for defaults (image_after start past) command
      → work ≡ (if suc (steps_in since) == steps_for defaults (image_after start past) command then Settled else Working)
  answered_by start past since packet command work new h e n l = by_change (changes defaults (keymap defaults (image_after start past)) command) refl l
    where
      needed : ℕ
      needed = length (operations_of defaults (image_after start past) command)

      at_stand : Stands start (image_after start past) command (since ++ packet ∷ past) since → suc (steps_in since) ≤ needed → work ≡ (if suc (steps_in since) == needed then Settled else Working)
      at_stand (at_work less w m i f) k =
          step_answer work (steps_in since) needed k (answers_of start (image_after start past) command (since ++ packet ∷ past) since work new n.0 h.0 w m i) (suc (steps_in since) == needed) refl
      at_stand (is_done more f) k = absurd (omega (arith, more, k))

      by_change : (change : Bool) → changes defaults (keymap defaults (image_after start past)) command ≡ change → suc (steps_in since) ≤ (if change then needed else 0)
          → work ≡ (if suc (steps_in since) == (if change then needed else 0) then Settled else Working)
      by_change true c k = at_stand (stands_since start past since packet command h.1 e n.1 c) k
      by_change false c k = absurd (omega (arith, k))

  -- ---- the status stage

  fresh_out : (step : OutStep) (packet : List ℕ) (entries : ℕ → ℕ → ℕ) (answer : EpAnswer) (calls : List EpCall) → IsFresh calls → IsFresh (with_out defaults step packet entries answer calls)
  fresh_out (Answered a) packet entries answer calls u n s t = u n s (or_false (is_ack a) (list_any acknowledges (calls_since calls)) t)
  fresh_out (Leds leds) packet entries answer calls u n s t = cc
  fresh_out (Offer bytes) packet entries answer calls u n s t = u n s (or_false (is_ack answer) (list_any acknowledges (calls_since calls)) t)

  fresh : (start : List ℕ) (past : List Call) → EachCall (IsAnswered defaults) start past → IsFresh (ep_calls defaults start past)
  unfolding ep_calls
  fresh start [] h n s t = refl
  fresh start (Scanned scan ∷ before) h n s t = fresh start before h.1 n s t
  fresh start (SetUp bytes ∷ before) h n s t = refl
  fresh start (Out packet answer ∷ before) h n s t =
      fresh_out (out_step (stage (ep_calls defaults start before)) packet) packet (keymap defaults (image_after start before)) answer (ep_calls defaults start before) (fresh start before h.1) n s t
  fresh start (In answer ∷ before) h n s t =
      let calls : List EpCall = ep_calls defaults start before in
      neither (is_empty_packet answer) (list_any is_empty_in (calls_since calls)) (fresh_in calls answer n h.0 s t) (fresh start before h.1 n s t)
  fresh start (Polled answer ∷ before) h n s t = fresh start before h.1 n s t
  fresh start (Worked Idle image ∷ before) h n s t = fresh start before h.1 n s t
  fresh start (Worked Working image ∷ before) h n s t = fresh start before h.1 n s t
  fresh start (Worked Settled image ∷ before) h n s t = fresh start before h.1 n s t
  fresh start (Worked Failed image ∷ before) h n s t = fresh start before h.1 n s t
  fresh start (BusReset ∷ before) h n s t = refl

  unspoilt_offered : (step : OutStep) (packet bytes : List ℕ) (entries : ℕ → ℕ → ℕ) (calls : List EpCall) → step ≡ Offer bytes → IsUnspoilt calls → IsUnspoilt (with_out defaults step packet entries Ack calls)
  unspoilt_offered step packet bytes entries calls e u =
      subst (λ (x : OutStep). IsUnspoilt (with_out defaults x packet entries Ack calls)) (sym e) (record { unstalled = rw u.unstalled refl; unconfirmed = u.unconfirmed })

  unspoilt_packet : (start : List ℕ) (before : List Call) (packet : List ℕ) (answer : EpAnswer) (command : Command) → accepts before (Out packet answer) ≡ Some command → EachCall (IsAnswered defaults) start (Out packet answer ∷ before)
      → IsUnspoilt (ep_calls defaults start (Out packet answer ∷ before))
  unfolding ep_calls
  unspoilt_packet start before packet answer command s h =
      let by : Accepts before packet answer command = accepted_by before packet answer command s in
      let calls : List EpCall = ep_calls defaults start before in
      let entries : ℕ → ℕ → ℕ = keymap defaults (image_after start before) in
      let due : IsDue defaults start before packet = due_at_packet defaults start before packet answer command by h.0 in
      let here : IsUnspoilt calls = record { unstalled = due.taking.unstalled; unconfirmed = fresh start before h.1 due.taking.length due.taking.begins due.taking.not_taken } in
      subst (λ (x : EpAnswer). IsUnspoilt (with_out defaults (out_step (stage calls) packet) packet entries x calls)) (sym by.acknowledged)
      (unspoilt_offered (out_step (stage calls) packet) packet (drop 1 packet) entries calls due.offered.step here)

  -- what the next IN packet is answered
  status_of : (start : List ℕ) (past between : List Call) (packet : List ℕ) (given : EpAnswer) (command : Command) → EachCall (IsAnswered defaults) start (between ++ Out packet given ∷ past) → accepts past (Out packet given) ≡ Some command
      → NoneFails between → StaysOpen between → IsUnspoilt (ep_calls defaults start (between ++ Out packet given ∷ past))
      → in_answer (stage_after defaults start (between ++ Out packet given ∷ past)) ≡ (if nat_lt (steps_in between) (steps_for defaults (image_after start past) command) then Nak else Packet (record { items = [] }))
  status_of start past between packet given command h e n o u =
      let calls : List EpCall = ep_calls defaults start (between ++ Out packet given ∷ past) in
      let changing : Bool = changes defaults (keymap defaults (image_after start past)) command in
      let here : EachCall (IsAnswered defaults) start (Out packet given ∷ past) = EachCall-later (IsAnswered defaults) start between (Out packet given ∷ past) h in
      let state : CommandState = state_reported changing (fate_after defaults between) in
      let taken : TakenBy calls state = taken_between defaults start between past packet given command (same_transfer between o) e here.0 in
      let now : stage calls ≡ after_command state false = taken_stage calls state taken ∙ rw (u.unstalled, u.unconfirmed) refl in
      ap in_answer now ∙ status_answer changing (nat_lt (steps_in between) (steps_for defaults (image_after start past) command)) (fate_after defaults between) (settled_by start past between (Out packet given) command h e n)

  unspoilt_in : (start : List ℕ) (past : List Call) (answer : EpAnswer) → IsUnspoilt (ep_calls defaults start past) → reason_in answer ≡ None → is_empty_packet answer ≡ false → IsUnspoilt (ep_calls defaults start (In answer ∷ past))
  unfolding ep_calls
  unspoilt_in start past answer u r e = record { unstalled = rw u.unstalled r; unconfirmed = rw (e, u.unconfirmed) refl }

  unspoilt_work : (start : List ℕ) (past : List Call) (work : WorkAnswer) (new : List ℕ) → IsUnspoilt (ep_calls defaults start past) → IsUnspoilt (ep_calls defaults start (Worked work new ∷ past))
  unfolding ep_calls
  unspoilt_work start past Idle new u = u
  unspoilt_work start past Working new u = u
  unspoilt_work start past Settled new u = record { unstalled = rw u.unstalled refl; unconfirmed = u.unconfirmed }
  unspoilt_work start past Failed new u = record { unstalled = rw u.unstalled refl; unconfirmed = u.unconfirmed }

  unspoilt : (start : List ℕ) (past between : List Call) (packet : List ℕ) (given : EpAnswer) (command : Command) → EachCall (IsAnswered defaults) start (between ++ Out packet given ∷ past) → accepts past (Out packet given) ≡ Some command
      → NoneFails between → StaysOpen between → IsUnspoilt (ep_calls defaults start (between ++ Out packet given ∷ past))
  unfolding ep_calls
  unspoilt start past [] packet given command h e n o = unspoilt_packet start past packet given command e h
  unspoilt start past (Scanned scan ∷ between) packet given command h e n o = unspoilt start past between packet given command h.1 e n o
  unspoilt start past (SetUp bytes ∷ between) packet given command h e n o = absurd o
  unspoilt start past (Out bytes answer ∷ between) packet given command h e n o = absurd o
  unspoilt start past (In answer ∷ between) packet given command h e n o =
      let before : IsUnspoilt (ep_calls defaults start (between ++ Out packet given ∷ past)) = unspoilt start past between packet given command h.1 e n o.1 in
      let quiet = no_stall (nat_lt (steps_in between) (steps_for defaults (image_after start past) command)) answer (h.0 ∙ status_of start past between packet given command h.1 e n o.1 before) o.0 in
      unspoilt_in start (between ++ Out packet given ∷ past) answer before quiet.0 quiet.1
  unspoilt start past (Polled answer ∷ between) packet given command h e n o = unspoilt start past between packet given command h.1 e n o
  unspoilt start past (Worked work new ∷ between) packet given command h e n o = unspoilt_work start (between ++ Out packet given ∷ past) work new (unspoilt start past between packet given command h.1 e n.1 o)
  unspoilt start past (BusReset ∷ between) packet given command h e n o = absurd o

  out_status : (start : List ℕ) (past between : List Call) (packet : List ℕ) (given answer : EpAnswer) (command : Command) → EachCall (IsAnswered defaults) start (In answer ∷ between ++ Out packet given ∷ past)
      → accepts past (Out packet given) ≡ Some command → NoneFails between → StaysOpen between
      → answer ≡ (if nat_lt (steps_in between) (steps_for defaults (image_after start past) command) then Nak else Packet (record { items = [] }))
  out_status start past between packet given answer command h e n o = h.0 ∙ status_of start past between packet given command h.1 e n o (unspoilt start past between packet given command h.1 e n o)

  -- an IN packet is answered NAK until then, and the first one after it by the empty packet
  pub status_by : (start : List ℕ) (past between : List Call) (packet : Call) (answer : EpAnswer) (command : Command) → EachCall (IsAnswered defaults) start (In answer ∷ between ++ packet ∷ past)
      → accepts past packet ≡ Some command → NoneFails between → StaysOpen between
      → answer ≡ (if nat_lt (steps_in between) (steps_for defaults (image_after start past) command) then Nak else Packet (record { items = [] }))
  status_by start past between packet answer command h e n o =
      let brings : IsOut packet = accepts_out past packet command e in
      out_status start past between brings.packet brings.answer answer command
      (subst (λ (c : Call). EachCall (IsAnswered defaults) start (In answer ∷ between ++ c ∷ past)) brings.is h) (subst (λ (c : Call). accepts past c ≡ Some command) brings.is e) n o
