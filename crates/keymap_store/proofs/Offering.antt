use Rattle.std.proofs.Common.{◌≡◌, ◌∙◌, ℕ, ◌+◌, ◌≤◌, ◌<◌, ◌^◌, refl, sym, ap, arith, List, [], ◌∷◌, ◌++◌, length, subst, inl, inr, None}
use Rattle.std.proofs.lemmas.List.{append-nil}
use Rattle.layers.specs.Codes.{DefaultCodes}
use Rattle.layers.specs.declared.command.Command.{Command}
use Rattle.layers.specs.Commands.{IsCommand, word_of}
use Rattle.layers.specs.Copies.{IsNextChanged, IsDefaultFrom, AreCopies, places}
use Rattle.layers.specs.Keymaps.{HasEntries}
use Rattle.layers.proofs.Copying.{AreCopies-start, AreCopies-next, AreCopies-end, AreCopies-length}
use Rattle.page_turnover.specs.declared.log.stepping.Step.{Step}
use Rattle.page_turnover.specs.declared.log.stepping.Step.TheVariants.{Moved}
use Rattle.page_turnover.specs.representation.Log.{Describes}
use Rattle.page_turnover.specs.Words.{HasRoom}
use Rattle.page_turnover.specs.Value.{LogValue, Unread, Holds, Task, Rest, Append, Wait, Copy, Seal}
use Rattle.page_turnover.specs.Turn.{IsWaiting, IsPending, HasOffer, CanOffer, copies, offered, copied, with_copy, with_seal, target_page, next_seq}
use Rattle.page_turnover.specs.representation.Turn.{UnderWay}
use Rattle.page_turnover.specs.Steps.{StepsFor, Steps, Moves, Commits, EndsAs}
use Rattle.page_turnover.proofs.WordLists.{words_none}
use Rattle.page_turnover.proofs.Endings.{waiting_count}
use Rattle.keymap_store.specs.declared.store.Job.{Job}
use Rattle.keymap_store.specs.declared.store.Job.TheVariants.{Resting, Appending, Turning}
use Rattle.keymap_store.specs.Keymap.{entries_of}
use Rattle.keymap_store.specs.Left.{target_of}
use Rattle.keymap_store.specs.Store.{working}
use Rattle.keymap_store.specs.representation.Store.{OffersBelow, JobIs}
use Rattle.keymap_store.specs.Next.{all_copies, next_task, with_task}
use Rattle.keymap_store.specs.representation.Offers.{CanGoOn, IsOffered}
use Rattle.keymap_store.proofs.NextTasks.{IsAfter, copy_after, no_copy_after, next_task-copy, next_task-seal}
use Rattle.keymap_store.proofs.Keymaps.{keymap_copied}

copy_pending : (task : Task) (word : ℕ) → IsWaiting task → IsPending (with_copy task word)
copy_pending Rest word w = absurd w
copy_pending (Append other) word w = absurd w
copy_pending (Wait target) word w = tt
copy_pending (Copy target other) word w = absurd w
copy_pending (Seal target) word w = absurd w

seal_pending : (task : Task) → IsWaiting task → IsPending (with_seal task)
seal_pending Rest w = absurd w
seal_pending (Append word) w = absurd w
seal_pending (Wait target) w = tt
seal_pending (Copy target word) w = absurd w
seal_pending (Seal target) w = absurd w

pub go_on_copy : (task : Task) → CanGoOn task → IsWaiting task → CanOffer task
go_on_copy Rest g w = absurd w
go_on_copy (Append word) g w = absurd w
go_on_copy (Wait target) g w = g
go_on_copy (Copy target word) g w = absurd w
go_on_copy (Seal target) g w = absurd w

pub copy_target : (task : Task) (word : ℕ) → target_of (with_copy task word) ≡ target_of task
copy_target Rest word = refl
copy_target (Append other) word = refl
copy_target (Wait target) word = refl
copy_target (Copy target other) word = refl
copy_target (Seal target) word = refl

pub seal_target : (task : Task) → target_of (with_seal task) ≡ target_of task
seal_target Rest = refl
seal_target (Append word) = refl
seal_target (Wait target) = refl
seal_target (Copy target word) = refl
seal_target (Seal target) = refl

copy_under_way : (image : List ℕ) (task : Task) (word : ℕ) → CanOffer task → word < 2 ^ 32 → UnderWay image task → UnderWay image (with_copy task word)
copy_under_way image Rest word o fits u = absurd o
copy_under_way image (Append other) word o fits u = absurd o
copy_under_way image (Wait target) word o fits u = record { turning = u; few = o; fits = fits }
copy_under_way image (Copy target other) word o fits u = absurd o
copy_under_way image (Seal target) word o fits u = absurd o

pub copy_described : (image : List ℕ) (log : LogValue) (word : ℕ) → CanOffer log.task → word < 2 ^ 32 → Describes image log → Describes image (record log { task = with_copy log.task word })
copy_described image log word o fits d = record { whole = d.whole; active_is = d.active_is; unsound_is = d.unsound_is; task_is = copy_under_way image log.task word o fits d.task_is }

module _ (defaults : DefaultCodes) where
  -- the next entry that differs is offered, or the commit header where there is none
  pub offered_next : (entries : ℕ → ℕ → ℕ) (image : List ℕ) (task : Task) (from place word : ℕ) (command : Command) → IsWaiting task → OffersBelow defaults entries from image task → IsNextChanged defaults entries from place command → IsCommand command → word ≡ word_of command → OffersBelow defaults entries (place + 1) image (with_copy task word)
  offered_next entries image Rest from place word command w o n c e = absurd w
  offered_next entries image (Append other) from place word command w o n c e = absurd w
  offered_next entries image (Wait target) from place word command w o n c e = rw e (AreCopies-next defaults entries from place command (copies image (Wait target)) o n c)
  offered_next entries image (Copy target other) from place word command w o n c e = absurd w
  offered_next entries image (Seal target) from place word command w o n c e = absurd w

  pub sealed_next : (entries : ℕ → ℕ → ℕ) (image : List ℕ) (task : Task) (from : ℕ) → from ≤ places → IsWaiting task → OffersBelow defaults entries from image task → IsDefaultFrom defaults entries from → OffersBelow defaults entries from image (with_seal task)
  sealed_next entries image Rest from l w o d = absurd w
  sealed_next entries image (Append word) from l w o d = absurd w
  sealed_next entries image (Wait target) from l w o d = AreCopies-end defaults entries from (copies image (Wait target)) l o d
  sealed_next entries image (Copy target word) from l w o d = absurd w
  sealed_next entries image (Seal target) from l w o d = absurd w

  -- a compaction that does not wait has something pending
  pub pending_unless : (entries : ℕ → ℕ → ℕ) (from : ℕ) (image : List ℕ) (task : Task) → OffersBelow defaults entries from image task → (IsWaiting task → ⊥) → IsPending task
  pending_unless entries from image Rest o n = absurd o
  pending_unless entries from image (Append word) o n = absurd o
  pending_unless entries from image (Wait target) o n = absurd (n tt)
  pending_unless entries from image (Copy target word) o n = tt
  pending_unless entries from image (Seal target) o n = tt

  -- fewer than 511 copies are made, since there are 384 places
  pub few_copies : (entries : ℕ → ℕ → ℕ) (from : ℕ) (image : List ℕ) (task : Task) → from ≤ places → UnderWay image task → OffersBelow defaults entries from image task → CanGoOn task
  few_copies entries from image Rest l u o = absurd o
  few_copies entries from image (Append word) l u o = absurd o
  few_copies entries from image (Wait target) l u o =
      let count : length (copies image (Wait target)) ≡ copied target = waiting_count image target u.target_is in
      let few : length (copies image (Wait target)) ≤ from = AreCopies-length defaults entries from (copies image (Wait target)) o in
      omega arith
  few_copies entries from image (Copy target word) l u o = tt
  few_copies entries from image (Seal target) l u o = tt

  -- a step that commits nothing keeps what was offered
  after_move : (entries : ℕ → ℕ → ℕ) (from : ℕ) (old : List ℕ) (before : LogValue) (task : Task) (new : List ℕ) (after : LogValue) → OffersBelow defaults entries from old task → StepsFor task old before Moved new after → Moves old task new after.task → OffersBelow defaults entries from new after.task
  after_move entries from old before Rest new after o s m = absurd o
  after_move entries from old before (Append word) new after o s m = absurd o
  after_move entries from old before (Wait target) new after o s m = let f = s.answer in cc
  after_move entries from old before (Copy target word) new after o s m =
      let P : List ℕ → Type 0 = λ ws. AreCopies defaults entries from ws in
      let O : Task → Type 0 = λ t. OffersBelow defaults entries from new t in
      let C : Task → Type 0 = λ t. copies new t ++ offered t ≡ copies old (Copy target word) ++ word ∷ [] in
      elim s [
        | inl a ↦ (let t : after.task ≡ Copy (Holds 0) word = rw a.next refl in
            subst O (sym t) (subst P (sym (subst C t m.copies_are)) o))
        | inr a ↦ (let t : after.task ≡ Wait (Holds (copied target + 1)) = rw a.next refl in
            subst O (sym t) (subst P (sym (sym (append-nil (copies new (Wait (Holds (copied target + 1))))) ∙ subst C t m.copies_are)) o))
      ]
  after_move entries from old before (Seal target) new after o s m =
      let P : List ℕ → Type 0 = λ ws. AreCopies defaults entries places ws in
      let O : Task → Type 0 = λ t. OffersBelow defaults entries from new t in
      let C : Task → Type 0 = λ t. copies new t ++ offered t ≡ copies old (Seal target) ++ [] in
      elim s [
        | inl a ↦ (let t : after.task ≡ Seal (Holds 0) = rw a.next refl in
            subst O (sym t) (subst P (sym (sym (append-nil (copies new (Seal (Holds 0)))) ∙ subst C t m.copies_are ∙ append-nil (copies old (Seal target)))) o))
        | inr a ↦ (let f = a.answer in cc)
      ]

  pub moved_on : (entries : ℕ → ℕ → ℕ) (from : ℕ) (old : List ℕ) (before : LogValue) (step : Step) (new : List ℕ) (after : LogValue) → OffersBelow defaults entries from old before.task → step ≡ Moved → EndsAs old before step new after → Moves old before.task new after.task → OffersBelow defaults entries from new after.task
  moved_on entries from old before step new after o e ends m =
      let S : Step → Type 0 = λ s. Steps old before s new after in
      after_move entries from old before before.task new after o (subst S e (ends.done (λ f. cc))) m

  -- a compaction's commit makes the copies the words, with room for more
  pub record Committed_turn (new : List ℕ) (keymap : List ℕ) : Type 0 where
    pub refines : HasEntries (entries_of defaults new) keymap
    pub room : HasRoom new

  turn_done : (entries : ℕ → ℕ → ℕ) (from : ℕ) (old : List ℕ) (task : Task) (new keymap : List ℕ) → OffersBelow defaults entries from old task → HasEntries entries keymap → Commits old task new → Committed_turn new keymap
  turn_done entries from old Rest new keymap o h c = absurd o
  turn_done entries from old (Append word) new keymap o h c = absurd o
  turn_done entries from old (Wait target) new keymap o h c = absurd c
  turn_done entries from old (Copy target word) new keymap o h c = absurd c
  turn_done entries from old (Seal target) new keymap o h c =
      let few : length (copies old (Seal target)) ≤ places = AreCopies-length defaults entries places (copies old (Seal target)) o in
      record {
        refines = keymap_copied defaults entries new keymap c.format_is (rw c.words_are o) h;
        room = record { page = target_page old; seq = next_seq old; is_active = c.active_is; current = c.format_is; free = c.rest 511 (omega arith) (omega arith) };
      }

  pub committed_turn : (entries : ℕ → ℕ → ℕ) (from : ℕ) (old : List ℕ) (task : Task) (new keymap : List ℕ) → OffersBelow defaults entries from old task → HasEntries entries keymap → Commits old task new → Committed_turn new keymap
  committed_turn = turn_done

  -- a new compaction has offered nothing
  pub nothing_offered : (entries : ℕ → ℕ → ℕ) (image : List ℕ) → OffersBelow defaults entries 0 image (Wait Unread)
  nothing_offered entries image = rw (words_none image (target_page image)) (AreCopies-start defaults entries)

  -- what the log has after it was offered something
  offered_is : (entries : ℕ → ℕ → ℕ) (image : List ℕ) (task : Task) (from place word : ℕ) (command : Command) → IsWaiting task → UnderWay image task → OffersBelow defaults entries from image task → IsNextChanged defaults entries from place command → word ≡ word_of command → with_copy task word ≡ next_task defaults entries task
  offered_is entries image Rest from place word command w u o n e = absurd w
  offered_is entries image (Append other) from place word command w u o n e = absurd w
  offered_is entries image (Wait target) from place word command w u o n e =
      let after : IsAfter (copies image (Wait target)) (all_copies defaults entries) word = rw e (copy_after defaults entries from place command (copies image (Wait target)) o n) in
      sym (next_task-copy defaults entries target (copies image (Wait target)) word (waiting_count image target u.target_is) after)
  offered_is entries image (Copy target other) from place word command w u o n e = absurd w
  offered_is entries image (Seal target) from place word command w u o n e = absurd w

  sealed_is : (entries : ℕ → ℕ → ℕ) (image : List ℕ) (task : Task) (from : ℕ) → from ≤ places → IsWaiting task → UnderWay image task → OffersBelow defaults entries from image task → IsDefaultFrom defaults entries from → with_seal task ≡ next_task defaults entries task
  sealed_is entries image Rest from l w u o d = absurd w
  sealed_is entries image (Append word) from l w u o d = absurd w
  sealed_is entries image (Wait target) from l w u o d =
      let all : all_copies defaults entries ≡ copies image (Wait target) = no_copy_after defaults entries from (copies image (Wait target)) l o d in
      let count : length (copies image (Wait target)) ≡ copied target = waiting_count image target u.target_is in
      let few : length (all_copies defaults entries) ≤ copied target = rw (all, count) (omega arith) in
      sym (next_task-seal defaults entries target few)
  sealed_is entries image (Copy target word) from l w u o d = absurd w
  sealed_is entries image (Seal target) from l w u o d = absurd w

  not_waiting_is : (entries : ℕ → ℕ → ℕ) (task : Task) → (IsWaiting task → ⊥) → task ≡ next_task defaults entries task
  not_waiting_is entries Rest n = refl
  not_waiting_is entries (Append word) n = refl
  not_waiting_is entries (Wait target) n = absurd (n tt)
  not_waiting_is entries (Copy target word) n = refl
  not_waiting_is entries (Seal target) n = refl

  pub not_waiting_refines : (entries : ℕ → ℕ → ℕ) (image : List ℕ) (log : LogValue) (from : ℕ) → (IsWaiting log.task → ⊥) → Describes image log → OffersBelow defaults entries from image log.task → IsOffered defaults entries image log log from
  not_waiting_refines entries image log from n d o = record {
    describes = d;
    offers = o;
    pending = pending_unless entries from image log.task o n;
    next = ap (λ (t : Task). with_task log t) (not_waiting_is entries log.task n);
  }

  pub offer_refines : (entries : ℕ → ℕ → ℕ) (image : List ℕ) (log after : LogValue) (from place word : ℕ) (command : Command) → IsWaiting log.task → Describes image log → Describes image after → OffersBelow defaults entries from image log.task → IsNextChanged defaults entries from place command → IsCommand command → after ≡ record log { task = with_copy log.task word } → word ≡ word_of command → IsOffered defaults entries image log after (place + 1)
  offer_refines entries image log after from place word command w b d o n c a e =
      let t : after.task ≡ with_copy log.task word = rw a refl in
      let O : Task → Type 0 = λ x. OffersBelow defaults entries (place + 1) image x × IsPending x in
      let s = subst O (sym t) (offered_next entries image log.task from place word command w o n c e, copy_pending log.task word w) in
      record {
        describes = d;
        offers = s.0;
        pending = s.1;
        next = a ∙ ap (λ (x : Task). with_task log x) (offered_is entries image log.task from place word command w b.task_is o n e);
      }

  pub seal_refines : (entries : ℕ → ℕ → ℕ) (image : List ℕ) (log after : LogValue) (from : ℕ) → from ≤ places → IsWaiting log.task → Describes image log → Describes image after → OffersBelow defaults entries from image log.task → IsDefaultFrom defaults entries from → after ≡ record log { task = with_seal log.task } → IsOffered defaults entries image log after from
  seal_refines entries image log after from l w b d o f a =
      let t : after.task ≡ with_seal log.task = rw a refl in
      let O : Task → Type 0 = λ x. OffersBelow defaults entries from image x × IsPending x in
      let s = subst O (sym t) (sealed_next entries image log.task from l w o f, seal_pending log.task w) in
      record {
        describes = d;
        offers = s.0;
        pending = s.1;
        next = a ∙ ap (λ (x : Task). with_task log x) (sealed_is entries image log.task from l w b.task_is o f);
      }
