-- The operation that is next, case by case, and what a step does once it is made.
use Rattle.std.proofs.Common.{◌≡◌, ℕ, ◌+◌, ◌≤◌, refl, arith, Bool, true, false, List, Option, Some, None}
use Rattle.page_turnover.specs.declared.log.ActivePage.{ActivePage}
use Rattle.page_turnover.specs.declared.log.stepping.Step.TheVariants.{Idle}
use Rattle.page_turnover.specs.declared.operation.Operation.{Operation}
use Rattle.page_turnover.specs.declared.operation.Operation.TheVariants.{Program, Erase}
use Rattle.page_turnover.specs.Value.{LogValue, Target, Unread, Holds, Task, Rest, Append, Wait, Copy, Seal}
use Rattle.page_turnover.specs.Header.{header_word}
use Rattle.page_turnover.specs.Words.{IsBlank}
use Rattle.page_turnover.specs.Blank.{is_blank}
use Rattle.page_turnover.specs.Turn.{target_page, next_seq, copied, HasShortWord}
use Rattle.page_turnover.specs.representation.Turn.{Appending, Copying, Turning, HoldsCopies, TargetIs, task_of}
use Rattle.page_turnover.specs.representation.Log.{Describes}
use Rattle.page_turnover.specs.Next.{next_operation, operation_for, append_operation, turn_operation, is_ready, ProgramsShort}
use Rattle.page_turnover.specs.Steps.{IsReady, EndsAs, StepsFor}
use Rattle.page_turnover.specs.representation.Made.{CanMake}
use Rattle.page_turnover.proofs.Blanks.{is_blank-blank, blank_of}
use Rattle.page_turnover.proofs.Headers.{header_word-small, header_word-short}
use Rattle.page_turnover.proofs.Describing.{held_active, held_inside, room_of_none}
use Rattle.page_turnover.proofs.Turns.{target_inside, ready_holds}
use Rattle.page_turnover.proofs.Endings.{under_way, append_room}

-- the cases of the operation that is next
pub data NextIs (old : List ℕ) (log : LogValue) (operation : Operation) : Type 0 where
  appends : (word : ℕ) (a : ActivePage) → log.task ≡ Append word → log.active ≡ Some a → operation ≡ Program a.page a.tail word → NextIs old log operation
  copies_word : (target : Target) (word : ℕ) → log.task ≡ Copy target word → IsReady old target → operation ≡ Program (target_page old) (copied target + 1) word → NextIs old log operation
  seals_turn : (target : Target) → log.task ≡ Seal target → IsReady old target → operation ≡ Program (target_page old) 0 (header_word 2 (next_seq old)) → NextIs old log operation
  erases_copy : (target : Target) (word : ℕ) → log.task ≡ Copy target word → operation ≡ Erase (target_page old) → NextIs old log operation
  erases_seal : (target : Target) → log.task ≡ Seal target → operation ≡ Erase (target_page old) → NextIs old log operation

pub some_same : (a b : Operation) → Some a ≡ Some b → b ≡ a
some_same a b e = cc

-- a target that the test says to be ready
pub test_ready : (image : List ℕ) (target : Target) → is_ready image target ≡ true → IsReady image target
test_ready image Unread e = blank_of image (target_page image) e
test_ready image (Holds n) e = tt

next_append : (old : List ℕ) (log : LogValue) (operation : Operation) (word : ℕ) (held : Option ActivePage) → log.task ≡ Append word → log.active ≡ held → append_operation held word ≡ Some operation → NextIs old log operation
next_append old log operation word None t h e = cc
next_append old log operation word (Some a) t h e = appends word a t h (some_same _ _ e)

next_copy : (old : List ℕ) (log : LogValue) (operation : Operation) (target : Target) (word : ℕ) (test : Bool) → log.task ≡ Copy target word → is_ready old target ≡ test → Some (turn_operation test old (copied target + 1) word) ≡ Some operation → NextIs old log operation
next_copy old log operation target word true t r e = copies_word target word t (test_ready old target r) (some_same _ _ e)
next_copy old log operation target word false t r e = erases_copy target word t (some_same _ _ e)

next_seal : (old : List ℕ) (log : LogValue) (operation : Operation) (target : Target) (test : Bool) → log.task ≡ Seal target → is_ready old target ≡ test → Some (turn_operation test old 0 (header_word 2 (next_seq old))) ≡ Some operation → NextIs old log operation
next_seal old log operation target true t r e = seals_turn target t (test_ready old target r) (some_same _ _ e)
next_seal old log operation target false t r e = erases_seal target t (some_same _ _ e)

next_for : (old : List ℕ) (log : LogValue) (operation : Operation) (task : Task) → log.task ≡ task → operation_for task old log ≡ Some operation → NextIs old log operation
next_for old log operation Rest t e = cc
next_for old log operation (Append word) t e = next_append old log operation word log.active t refl e
next_for old log operation (Wait target) t e = cc
next_for old log operation (Copy target word) t e = next_copy old log operation target word (is_ready old target) t refl e
next_for old log operation (Seal target) t e = next_seal old log operation target (is_ready old target) t refl e

pub next_is : (old : List ℕ) (log : LogValue) (operation : Operation) → next_operation old log ≡ Some operation → NextIs old log operation
next_is old log operation e = next_for old log operation log.task refl e

-- the operation that is next is within the flash, and programs only a Free slot
can_for : (old : List ℕ) (log : LogValue) (operation : Operation) → Describes old log → NextIs old log operation → CanMake old operation
can_for old log operation d (appends word a t h e) =
    let held = held_active old log a d h in
    let u : Appending old word = under_way old log (Append word) d t in
    let low : a.tail ≤ 511 = append_room old log word a d t h in
    rw e (held_inside old log a d h, omega arith, u.fits, held.is_tail.free a.tail (omega arith) (omega arith))
can_for old log operation d (copies_word target word t r e) =
    let u : Copying old target word = under_way old log (Copy target word) d t in
    let h : HoldsCopies old (target_page old) (copied target) = ready_holds old target u.turning.target_is r in
    rw e (target_inside old d.whole, omega (arith, u.few), u.fits, h.rest (copied target + 1) (omega arith) (omega (arith, u.few)))
can_for old log operation d (seals_turn target t r e) =
    let u : Turning old target = under_way old log (Seal target) d t in
    let h : HoldsCopies old (target_page old) (copied target) = ready_holds old target u.target_is r in
    rw e (target_inside old d.whole, omega arith, header_word-small (next_seq old) u.can.numbered, h.header)
can_for old log operation d (erases_copy target word t e) = rw e (target_inside old d.whole)
can_for old log operation d (erases_seal target t e) = rw e (target_inside old d.whole)

pub can_make : (old : List ℕ) (log : LogValue) (operation : Operation) → Describes old log → next_operation old log ≡ Some operation → CanMake old operation
can_make old log operation d e = can_for old log operation d (next_is old log operation e)

-- what an append, a copy, a commit header and an erase are next
pub next_of_append : (old : List ℕ) (log : LogValue) (word : ℕ) (a : ActivePage) → log.task ≡ Append word → log.active ≡ Some a → next_operation old log ≡ Some (Program a.page a.tail word)
next_of_append old log word a t h = rw (t, h) refl

pub next_of_copy : (old : List ℕ) (log : LogValue) (target : Target) (word : ℕ) → log.task ≡ Copy target word → is_ready old target ≡ true → next_operation old log ≡ Some (Program (target_page old) (copied target + 1) word)
next_of_copy old log target word t r = rw (t, r) refl

pub next_of_seal : (old : List ℕ) (log : LogValue) (target : Target) → log.task ≡ Seal target → is_ready old target ≡ true → next_operation old log ≡ Some (Program (target_page old) 0 (header_word 2 (next_seq old)))
next_of_seal old log target t r = rw (t, r) refl

pub next_of_unready : (old : List ℕ) (log : LogValue) (target : Target) (next : Option ℕ) → log.task ≡ task_of target next → is_ready old target ≡ false → next_operation old log ≡ Some (Erase (target_page old))
next_of_unready old log target (Some word) t r = rw (t, r) refl
next_of_unready old log target None t r = rw (t, r) refl

pub unready : (image : List ℕ) (target : Target) → is_ready image target ≡ false → (target ≡ Unread) × (IsBlank image (target_page image) → ⊥)
unready image Unread e = (refl, λ b. let t : is_blank image (target_page image) ≡ true = is_blank-blank image (target_page image) b in cc)
unready image (Holds n) e = cc
