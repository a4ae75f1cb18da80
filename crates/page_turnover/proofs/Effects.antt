use Rattle.page_turnover.specs.declared.log.stepping.Step.TheVariants.{Idle}
use Rattle.page_turnover.specs.Turn.{IsPending}
use Rattle.std.proofs.Common.{◌≡◌, ◌≢◌, ◌∙◌, ℕ, ◌+◌, refl, arith, List, [], ◌∷◌, ◌++◌, inl, inr}
use Rattle.std.proofs.lemmas.List.{append-nil}
use Rattle.records.specs.Slots.{encoded}
use Rattle.flash_model.specs.Image.{IsImage}
use Rattle.flash_model.specs.Operations.{Programs}
use Rattle.page_turnover.specs.Header.{header_word}
use Rattle.page_turnover.specs.Value.{Target}
use Rattle.page_turnover.specs.Value.{Unread, Holds}
use Rattle.page_turnover.specs.Value.{Task}
use Rattle.page_turnover.specs.Value.{Rest, Append, Wait, Copy, Seal}
use Rattle.page_turnover.specs.declared.log.stepping.Step.{Step}
use Rattle.page_turnover.specs.declared.log.stepping.Step.TheVariants.{Moved, Committed, Failed}
use Rattle.page_turnover.specs.Words.{words_up_to}
use Rattle.page_turnover.specs.Usable.{IsUsable}
use Rattle.page_turnover.specs.Value.{LogValue}
use Rattle.page_turnover.specs.Turn.{target_page, next_seq, copied, copies, offered}
use Rattle.page_turnover.specs.representation.Turn.{HoldsCopies, Turning, Copying}
use Rattle.page_turnover.specs.Steps.{ErasesTarget, Copies, StepsFor, EndsAs, Moves, Commits, CommitsTurn, IsReady}
use Rattle.page_turnover.specs.representation.Log.{Describes}
use Rattle.page_turnover.proofs.WordLists.{words_none}
use Rattle.page_turnover.proofs.Operating.{Appended, Headed, usable_same}
use Rattle.page_turnover.proofs.Turns.{target_inside, ready_holds, words_of_copies, count_of_copies}
use Rattle.page_turnover.proofs.Kept.{KeepsActive, words_kept, target_kept, format_kept}
use Rattle.page_turnover.proofs.Endings.{under_way, append_fact, erased_keep, copy_keep, copied_words, seal_fact}

-- an erase that keeps what is pending
moves_erase : (old : List ℕ) (before : LogValue) (target : Target) (pending : Target → Task) (step : Step) (new : List ℕ) (after : LogValue) → Describes old before → IsImage new
    → ((image : List ℕ) (t : Target) → copies image (pending t) ≡ words_up_to image (target_page image) (copied t)) → ((t u : Target) → offered (pending t) ≡ offered (pending u))
    → ErasesTarget old before target pending step new after → Moves old (pending target) new after.task
moves_erase old before target pending step new after d i shown same m =
    let k : KeepsActive old new = erased_keep old before new d i m.erased in
    let none : copies new (pending (Holds 0)) ≡ [] = shown new (Holds 0) ∙ words_none new (target_page new) in
    let none_before : copies old (pending target) ≡ [] = rw m.unread (shown old Unread ∙ words_none old (target_page old)) in
    let task : after.task ≡ pending (Holds 0) = rw m.next refl in
    record {
      keeps = record { words_are = words_kept old new k; active_is = k.active_is; format_is = format_kept old new k };
      copies_are = rw (task, none, none_before, same (Holds 0) target) refl;
    }

moves_copy : (old : List ℕ) (before : LogValue) (target : Target) (word : ℕ) (step : Step) (new : List ℕ) (after : LogValue) → Describes old before → Copying old target word → IsImage new
    → Copies old before target word step new after → Moves old (Copy target word) new after.task
moves_copy old before target word step new after d c i m =
    let k : KeepsActive old new = copy_keep old before (copied target) new d m.programmed.rest in
    let h : HoldsCopies old (target_page old) (copied target) = ready_holds old target c.turning.target_is m.ready in
    let task : after.task ≡ Wait (Holds (copied target + 1)) = rw m.next refl in
    let more : words_up_to new (target_page old) (copied target + 1) ≡ words_up_to old (target_page old) (copied target) ++ word ∷ [] =
    copied_words old new (target_page old) (copied target) word c.few c.fits d.whole i (target_inside old d.whole) h m.programmed in
    record {
      keeps = record { words_are = words_kept old new k; active_is = k.active_is; format_is = format_kept old new k };
      copies_are = rw (task, target_kept old new k) (append-nil (words_up_to new (target_page old) (copied target + 1)) ∙ more);
    }

moved_for : (old : List ℕ) (before : LogValue) (task : Task) (step : Step) (new : List ℕ) (after : LogValue) → Describes old before → before.task ≡ task → IsImage new → step ≡ Moved → StepsFor task old before step new after → Moves old task new after.task
moved_for old before Rest step new after d e i m s = let f = s.answer in cc
moved_for old before (Append word) step new after d e i m s = let f = s.answer in cc
moved_for old before (Wait target) step new after d e i m s = let f = s.answer in cc
moved_for old before (Copy target word) step new after d e i m s = elim s [
  | inl a ↦ moves_erase old before target (λ t. Copy t word) step new after d i (λ image t. refl) (λ t u. refl) a
  | inr a ↦ moves_copy old before target word step new after d (under_way old before (Copy target word) d e) i a
]
moved_for old before (Seal target) step new after d e i m s = elim s [
  | inl a ↦ moves_erase old before target Seal step new after d i (λ image t. refl) (λ t u. refl) a
  | inr a ↦ (let f = a.answer in cc)
]

pub moved : (old : List ℕ) (before : LogValue) (step : Step) (new : List ℕ) (after : LogValue) → Describes old before → step ≡ Moved → EndsAs old before step new after → Moves old before.task new after.task
moved old before step new after d m e = moved_for old before before.task step new after d refl e.describes.whole m (e.done (λ x. cc))

-- a compaction that is committed
pub turn_committed : (old : List ℕ) (before : LogValue) (target : Target) (new : List ℕ) → Describes old before → before.task ≡ Seal target → IsReady old target → IsImage new → Programs old (target_page old) 0 (encoded (header_word 2 (next_seq old))) new → CommitsTurn old (Seal target) new
turn_committed old before target new d e ready i g =
    let c : Turning old target = under_way old before (Seal target) d e in
    let h : HoldsCopies old (target_page old) (copied target) = ready_holds old target c.target_is ready in
    let f : Headed old (target_page old) (next_seq old) new = seal_fact old before target new d e ready i g in
    record {
      words_are = f.words_are ∙ words_of_copies old (target_page old) (copied target) h;
      active_is = f.active_is;
      format_is = f.format_is;
      rest = λ s a b. rw (g.rest.others (target_page old) s b (λ x y. omega arith)) (h.rest s (rw (count_of_copies old (target_page old) (copied target) h) at a) b);
    }

committed_for : (old : List ℕ) (before : LogValue) (task : Task) (step : Step) (new : List ℕ) (after : LogValue) → Describes old before → before.task ≡ task → IsImage new → step ≡ Committed → StepsFor task old before step new after → Commits old task new
committed_for old before Rest step new after d e i m s = let f = s.answer in cc
committed_for old before (Append word) step new after d e i m s =
    let f : Appended old s.place.page s.place.tail word new = append_fact old before word s.place new d e s.is_active i s.programmed in
    record { words_are = f.words_are; active_is = f.active_is; format_is = f.format_is }
committed_for old before (Wait target) step new after d e i m s = let f = s.answer in cc
committed_for old before (Copy target word) step new after d e i m s = elim s [
  | inl a ↦ (let f = a.answer in cc)
  | inr a ↦ (let f = a.answer in cc)
]
committed_for old before (Seal target) step new after d e i m s = elim s [
  | inl a ↦ (let f = a.answer in cc)
  | inr a ↦ turn_committed old before target new d e a.ready i a.programmed
]

pub committed : (old : List ℕ) (before : LogValue) (step : Step) (new : List ℕ) (after : LogValue) → Describes old before → step ≡ Committed → EndsAs old before step new after → Commits old before.task new
committed old before step new after d m e = committed_for old before before.task step new after d refl e.describes.whole m (e.done (λ x. cc))

-- no slot 0 is made unsound
usable_for : (old : List ℕ) (before : LogValue) (task : Task) (step : Step) (new : List ℕ) (after : LogValue) → Describes old before → before.task ≡ task → IsImage new → StepsFor task old before step new after → IsUsable old → IsUsable new
usable_for old before Rest step new after d e i s u = rw s.same_image u
usable_for old before (Append word) step new after d e i s u =
    let f : Appended old s.place.page s.place.tail word new = append_fact old before word s.place new d e s.is_active i s.programmed in
    usable_same old new f.headers u
usable_for old before (Wait target) step new after d e i s u = rw s.same_image u
usable_for old before (Copy target word) step new after d e i s u = elim s [
  | inl a ↦ (erased_keep old before new d i a.erased).usable u
  | inr a ↦ (copy_keep old before (copied target) new d a.programmed.rest).usable u
]
usable_for old before (Seal target) step new after d e i s u = elim s [
  | inl a ↦ (erased_keep old before new d i a.erased).usable u
  | inr a ↦ (seal_fact old before target new d e a.ready i a.programmed).usable u
]

pub stays_usable : (old : List ℕ) (before : LogValue) (step : Step) (new : List ℕ) (after : LogValue) → Describes old before → step ≢ Failed → EndsAs old before step new after → IsUsable old → IsUsable new
stays_usable old before step new after d n e u = usable_for old before before.task step new after d refl e.describes.whole (e.done n) u

-- after a commit nothing is under way
rests_for : (old : List ℕ) (before : LogValue) (task : Task) (step : Step) (new : List ℕ) (after : LogValue) → step ≡ Committed → StepsFor task old before step new after → after.task ≡ Rest
rests_for old before Rest step new after m s = let f = s.answer in cc
rests_for old before (Append word) step new after m s = rw s.next refl
rests_for old before (Wait target) step new after m s = let f = s.answer in cc
rests_for old before (Copy target word) step new after m s = elim s [
  | inl a ↦ (let f = a.answer in cc)
  | inr a ↦ (let f = a.answer in cc)
]
rests_for old before (Seal target) step new after m s = elim s [
  | inl a ↦ (let f = a.answer in cc)
  | inr a ↦ rw a.next refl
]

pub committed_rests : (old : List ℕ) (before : LogValue) (step : Step) (new : List ℕ) (after : LogValue) → step ≡ Committed → EndsAs old before step new after → after.task ≡ Rest
committed_rests old before step new after m e = rests_for old before before.task step new after m (e.done (λ x. cc))

-- what is pending is not answered by Idle
idle_for : (old : List ℕ) (before : LogValue) (task : Task) (step : Step) (new : List ℕ) (after : LogValue) → step ≡ Idle → IsPending task → StepsFor task old before step new after → ⊥
idle_for old before Rest step new after m p s = p
idle_for old before (Append word) step new after m p s = let f = s.answer in cc
idle_for old before (Wait target) step new after m p s = p
idle_for old before (Copy target word) step new after m p s = elim s [
  | inl a ↦ (let f = a.answer in cc)
  | inr a ↦ (let f = a.answer in cc)
]
idle_for old before (Seal target) step new after m p s = elim s [
  | inl a ↦ (let f = a.answer in cc)
  | inr a ↦ (let f = a.answer in cc)
]

pub not_idle : (old : List ℕ) (before : LogValue) (step : Step) (new : List ℕ) (after : LogValue) → step ≡ Idle → IsPending before.task → EndsAs old before step new after → ⊥
not_idle old before step new after m p e = idle_for old before before.task step new after m p (e.done (λ x. cc))
