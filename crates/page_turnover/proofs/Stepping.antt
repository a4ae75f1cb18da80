-- What a step owes, of an operation that was made.
use Rattle.std.proofs.Common.{◌≡◌, ◌≢◌, ℕ, ◌+◌, ◌%◌, ◌^◌, ◌<◌, refl, arith, true, false, List, Option, Some, None, MatchOption}
use Rattle.std.specs.Prelude.{⊤, IsSomeAnd}
use Rattle.flash_model.specs.Image.{page_count, IsImage}
use Rattle.page_turnover.specs.declared.log.ActivePage.{ActivePage}
use Rattle.page_turnover.specs.declared.log.stepping.Step.{Step}
use Rattle.page_turnover.specs.declared.log.stepping.Step.TheVariants.{Idle, Failed}
use Rattle.page_turnover.specs.declared.operation.Operation.{Operation}
use Rattle.page_turnover.specs.Value.{LogValue}
use Rattle.page_turnover.specs.representation.Log.{Describes}
use Rattle.page_turnover.specs.Next.{next_operation, is_ready, Makes, MayMake, ReadsBack}
use Rattle.page_turnover.specs.representation.Made.{RaisesFaults}
use Rattle.page_turnover.specs.Usable.{IsUsable}
use Rattle.page_turnover.specs.Steps.{AttemptsNext, CountsAs}
use Rattle.page_turnover.specs.declared.log.stepping.Step.TheVariants.{Moved, Committed}
use Rattle.page_turnover.specs.declared.operation.Operation.TheVariants.{Program, Erase}
use Rattle.page_turnover.specs.Header.{header_word}
use Rattle.page_turnover.specs.Value.{Target, Holds, Task, Rest, Append, Wait, Copy, Seal}
use Rattle.page_turnover.specs.Turn.{target_page, next_seq, copied, CanOffer, HasOffer, with_copy}
use Rattle.page_turnover.specs.representation.Turn.{task_of}
use Rattle.page_turnover.specs.representation.Made.{IsMade, IsPassedOver}
use Rattle.page_turnover.specs.Steps.{EndsAs, IsStep}
use Rattle.page_turnover.proofs.Describing.{held_inside}
use Rattle.page_turnover.proofs.Effects.{moved, committed, stays_usable}
use Rattle.page_turnover.proofs.Endings.{under_way, usable_of, append_ends, copy_ends, seal_ends, erase_for_copy, erase_for_seal}
use Rattle.page_turnover.proofs.Failing.{failed_ends}
use Rattle.page_turnover.proofs.Leaving.{leaves, fills, frame_whole, next_pending}
use Rattle.page_turnover.proofs.Operates.{operates}
use Rattle.page_turnover.proofs.Planning.{next_is, next_of_append, next_of_copy, next_of_seal, next_of_unready, test_ready, unready}

pub attempts_done : (old : List ℕ) (log : LogValue) (operation : Operation) (step : Step) (new : List ℕ) → next_operation old log ≡ Some operation → step ≢ Idle → step ≢ Failed → Makes old operation new × ReadsBack operation new → AttemptsNext (next_operation old log) old (step ≡ Idle) (step ≡ Failed) new
attempts_done old log operation step new e i f g = rw e (record { not_idle = i; done = λ n. g; torn = λ n. absurd (f n) })

pub attempts_failed : (old : List ℕ) (log : LogValue) (operation : Operation) (step : Step) (new : List ℕ) → next_operation old log ≡ Some operation → step ≡ Failed → MayMake old operation new × (ReadsBack operation new → ⊥) → AttemptsNext (next_operation old log) old (step ≡ Idle) (step ≡ Failed) new
attempts_failed old log operation step new e f g = rw e (record { not_idle = λ i. cc; done = λ n. absurd (n f); torn = λ n. g })

inside_by : (old new : List ℕ) (log : LogValue) (held : Option ActivePage) → Describes old log → log.active ≡ held → page_count new ≡ page_count old → MatchOption held ⊤ (λ a. a.page < page_count new)
inside_by old new log None d e p = tt
inside_by old new log (Some a) d e p = let l : a.page < page_count old = held_inside old log a d e in omega arith

pub inside_new : (old new : List ℕ) (log : LogValue) → Describes old log → page_count new ≡ page_count old → MatchOption log.active ⊤ (λ a. a.page < page_count new)
inside_new old new log d p = inside_by old new log log.active d refl p

-- an operation is next of an image that may be written
usable_next : (old : List ℕ) (before : LogValue) (operation : Operation) → Describes old before → next_operation old before ≡ Some operation → IsUsable old
usable_next old before operation d e = usable_of old before.task (next_pending old before operation (next_is old before operation e)) d.task_is

-- a step whose operation is whole
step_done : (old : List ℕ) (before : LogValue) (operation : Operation) (step : Step) (new : List ℕ) (after : LogValue) → Describes old before → next_operation old before ≡ Some operation → step ≢ Idle → step ≢ Failed → IsMade old operation true new → EndsAs old before step new after → IsStep old before step new after
step_done old before operation step new after d e idle failed made ends = record {
  not_idle = idle;
  ends = ends;
  attempts = attempts_done old before operation step new e idle failed made;
  moved = λ m. moved old before step new after d m ends;
  committed = λ m. committed old before step new after d m ends;
  was_usable = usable_next old before operation d e;
  usable = stays_usable old before step new after d failed ends (usable_next old before operation d e);
  operates = λ f. operates old before step new after d ends idle failed;
  torn = λ f. absurd (failed f);
  fills = fills old before operation new d e (frame_whole old operation new made.0);
}

-- a step whose operation does not read as intended
pub step_failed : (old : List ℕ) (before : LogValue) (operation : Operation) (step : Step) (new : List ℕ) (after : LogValue) → Describes old before → next_operation old before ≡ Some operation → IsImage new → IsMade old operation false new
    → MatchOption before.active (after.active ≡ None) (λ a. IsSomeAnd after.active (λ b. IsPassedOver new a b)) → after.unsound ≡ before.unsound → after.task ≡ Rest → step ≡ Failed → IsStep old before step new after
step_failed old before operation step new after d e i made passed unsound rests failed =
    let left = leaves old new before operation d e i made.0 in
    record {
      not_idle = λ x. cc;
      ends = failed_ends old before operation step new after d e i made passed unsound rests failed;
      attempts = attempts_failed old before operation step new e failed made;
      moved = λ m. cc;
      committed = λ m. cc;
      was_usable = usable_next old before operation d e;
      usable = left.usable;
      operates = λ f. absurd (f failed);
      torn = λ f. left.operates;
      fills = left.fills;
    }

pub append_done : (old : List ℕ) (before : LogValue) (word : ℕ) (a : ActivePage) (new : List ℕ) → Describes old before → before.task ≡ Append word → before.active ≡ Some a → IsImage new → IsMade old (Program a.page a.tail word) true new
    → IsStep old before Committed new (record { active = Some (record a { tail = a.tail + 1 }); unsound = before.unsound; task = Rest })
append_done old before word a new d t h i made =
    step_done old before (Program a.page a.tail word) Committed new _ d (next_of_append old before word a t h) (λ x. cc) (λ x. cc) made (append_ends old before word a new d t h i made.0)

pub copy_done : (old : List ℕ) (before : LogValue) (target : Target) (word : ℕ) (new : List ℕ) → Describes old before → before.task ≡ Copy target word → is_ready old target ≡ true → IsImage new → IsMade old (Program (target_page old) (copied target + 1) word) true new
    → IsStep old before Moved new (record before { task = Wait (Holds (copied target + 1)) })
copy_done old before target word new d t r i made =
    step_done old before (Program (target_page old) (copied target + 1) word) Moved new _ d (next_of_copy old before target word t r) (λ x. cc) (λ x. cc) made (copy_ends old before target word new d t (test_ready old target r) i made.0)

pub seal_done : (old : List ℕ) (before : LogValue) (target : Target) (new : List ℕ) → Describes old before → before.task ≡ Seal target → is_ready old target ≡ true → IsImage new → IsMade old (Program (target_page old) 0 (header_word 2 (next_seq old))) true new
    → IsStep old before Committed new (record { active = Some (record { page = target_page old; seq = next_seq old; format = 2; tail = copied target + 1 }); unsound = before.unsound; task = Rest })
seal_done old before target new d t r i made =
    step_done old before (Program (target_page old) 0 (header_word 2 (next_seq old))) Committed new _ d (next_of_seal old before target t r) (λ x. cc) (λ x. cc) made (seal_ends old before target new d t (test_ready old target r) i made.0)

erase_ends : (old : List ℕ) (before : LogValue) (target : Target) (next : Option ℕ) (new : List ℕ) → Describes old before → before.task ≡ task_of target next → is_ready old target ≡ false → IsImage new → Makes old (Erase (target_page old)) new
    → EndsAs old before Moved new (record before { task = task_of (Holds 0) next })
erase_ends old before target (Some word) new d t r i made = let u = unready old target r in erase_for_copy old before target word new d t u.0 u.1 i made
erase_ends old before target None new d t r i made = let u = unready old target r in erase_for_seal old before target new d t u.0 u.1 i made

pub erase_done : (old : List ℕ) (before : LogValue) (target : Target) (next : Option ℕ) (new : List ℕ) → Describes old before → before.task ≡ task_of target next → is_ready old target ≡ false → IsImage new → IsMade old (Erase (target_page old)) true new
    → IsStep old before Moved new (record before { task = task_of (Holds 0) next })
erase_done old before target next new d t r i made =
    step_done old before (Erase (target_page old)) Moved new _ d (next_of_unready old before target next t r) (λ x. cc) (λ x. cc) made (erase_ends old before target next new d t r i made.0)

-- a compaction that is offered a copy
pub copy_offered : (image : List ℕ) (log : LogValue) (target : Target) (word : ℕ) → Describes image log → log.task ≡ Wait target → copied target < 511 → word < 2 ^ 32 → Describes image (record log { task = Copy target word })
copy_offered image log target word d t few fits = record {
  whole = d.whole;
  active_is = d.active_is;
  unsound_is = d.unsound_is;
  task_is = record { turning = under_way image log (Wait target) d t; few = few; fits = fits };
}
