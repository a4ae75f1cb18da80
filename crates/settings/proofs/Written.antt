-- Where changes are written, step by step.
use Rattle.std.proofs.lemmas.Grind.{common_steps}
use Rattle.std.proofs.Common.{◌≡◌, ◌∙◌, ℕ, ◌+◌, ◌<◌, ◌≤◌, refl, ap, subst, arith, List, [], ◌∷◌, ◌++◌, length, take, get_or, inl, inr, append_assoc}
use Rattle.std.proofs.lemmas.Bool.{cases_lt}
use Rattle.std.proofs.lemmas.List.{take_all}
use Rattle.flash_model.specs.Image.{page_count}
use Rattle.page_turnover.specs.declared.log.stepping.Step.{Step}
use Rattle.page_turnover.specs.declared.log.stepping.Step.TheVariants.{Committed}
use Rattle.page_turnover.specs.Active.{active}
use Rattle.page_turnover.specs.Operates.{Operates}
use Rattle.page_turnover.specs.Steps.{Keeps, Commits, CommitsWord, EndsAs, StepsFor}
use Rattle.page_turnover.specs.Turn.{copies, target_page, next_seq}
use Rattle.page_turnover.specs.Usable.{IsUsable}
use Rattle.page_turnover.specs.Value.{LogValue, Task, Append}
use Rattle.page_turnover.specs.Words.{words}
use Rattle.page_turnover.specs.representation.Log.{Describes}
use Rattle.page_turnover.specs.representation.Turn.{UnderWay}
use Rattle.page_turnover.proofs.Describing.{held_active}
use Rattle.page_turnover.proofs.Endings.{waiting_count}
use Rattle.settings.specs.declared.change.Change.{Change}
use Rattle.settings.specs.declared.store.Job.{Job}
use Rattle.settings.specs.declared.store.Job.TheVariants.{Resting, Appending, Turning}
use Rattle.settings.specs.declared.store.Work.{Work}
use Rattle.settings.specs.declared.store.Work.TheVariants.{Working, Stored}
use Rattle.settings.specs.Words.{words_of}
use Rattle.settings.specs.Settings.{changed}
use Rattle.settings.specs.Copies.{all_copies}
use Rattle.settings.specs.Places.{own_words, Adds, IsCompacted, AreWritten}
use Rattle.settings.specs.Store.{IsBusy}
use Rattle.settings.specs.Works.{IsBetween, IsBeforeOrAfter, GoesTo, Writes, WritesMore, WritesLast}
use Rattle.settings.specs.representation.Store.{IsAppending, IsTurning, IsTurn, IsSeal}
use Rattle.settings.specs.representation.Whole.{WrittenSoFar}
use Rattle.settings.proofs.Storing.{changed_kept, take_next}
use Rattle.settings.proofs.Values.{are_values}
use Rattle.settings.proofs.Known.{known_change, between_added, between_copied}
use Rattle.settings.proofs.Appending.{one_is_change, keeps_values, changes_values}
use Rattle.settings.proofs.Turning.{turned_values}

-- a word of one change
one_committed : (old : List ℕ) (word : ℕ) (task : Task) (new : List ℕ) → task ≡ Append word → Commits old task new → CommitsWord old word new
one_committed old word task new t c = let C : Task → Type 0 = λ x. Commits old x new in subst C t c

pub writes_word : (old : List ℕ) (changes : List Change) (log next : LogValue) (before : Job) (at word : ℕ) (work : Work) (new : List ℕ) (after : Job) → before ≡ Appending at → (a : IsAppending old changes log at) → next.task ≡ Append word → word ≡ get_or (words_of a.change) at 0 → Commits old next.task new
    → (at + 1 < length (words_of a.change) → (work ≡ Working) × (after ≡ Appending (at + 1))) → (length (words_of a.change) ≤ at + 1 → (work ≡ Stored) × (after ≡ Resting)) → Writes before work old changes new after
writes_word old changes log next before at word work new after b a t w c more last =
    let f : CommitsWord old word new = one_committed old word next.task new t c in
    let o : own_words changes ≡ words_of a.change = rw a.one refl in
    let n : length (own_words changes) ≡ length (words_of a.change) = rw o refl in
    let m = a.more in
    let e : word ≡ get_or (own_words changes) at 0 = rw o w in
    let adds : Adds old (get_or (own_words changes) at 0 ∷ []) new = record { words_are = f.words_are ∙ ap (λ (x : ℕ). words old ++ x ∷ []) e; active_is = f.active_is; format_is = f.format_is } in
    elim (cases_lt (at + 1) (length (words_of a.change))) [
      | inl l ↦ rw (b, (more l).0) (adds, (more l).1, omega (arith, n, l))
      | inr l ↦ rw (b, (last l).0) (adds, omega (arith, n, l, m))
    ]

pub between_word : (old : List ℕ) (changes : List Change) (log next : LogValue) (at word : ℕ) (new : List ℕ) → (a : IsAppending old changes log at) → next.task ≡ Append word → word ≡ get_or (words_of a.change) at 0 → Commits old next.task new → (IsUsable old → IsUsable new) → IsBetween old changes new
between_word old changes log next at word new a t w c u =
    let f : CommitsWord old word new = one_committed old word next.task new t c in
    let v : IsBeforeOrAfter old changes new =
    elim (cases_lt (at + 1) (length (words_of a.change))) [
      | inl l ↦ inl (keeps_values old changes log next at word new a t w c l)
      | inr l ↦ inr (changes_values old changes log next at word new a t w c l)
    ] in
    between_added old changes new word u v f.words_are (rw w (known_change a.change (one_is_change old changes log at a) at 0 a.more))

-- a step of a compaction
pages_same : (old new : List ℕ) → Operates old new → page_count new ≡ page_count old
pages_same old new h1 = grind (arith, common_steps)

target_same : (old new : List ℕ) → active new ≡ active old → page_count new ≡ page_count old → target_page new ≡ target_page old
unfolding target_page
target_same old new a p = rw (a, p) refl

next_same : (old new : List ℕ) → active new ≡ active old → next_seq new ≡ next_seq old
unfolding next_seq
next_same old new a = rw a refl

pub writes_moved : (old : List ℕ) (changes : List Change) (before : Job) (from at : ℕ) (new : List ℕ) (after : Job) (next_from next_at : ℕ) → before ≡ Turning from at → Keeps old new → Operates old new → after ≡ Turning next_from next_at → Writes before Working old changes new after
writes_moved old changes before from at new after next_from next_at b k o e = rw (b, e) (k, target_same old new k.active_is (pages_same old new o), tt)

compacted_for : (task : Task) (old : List ℕ) (changes : List Change) (before : LogValue) (new : List ℕ) (after : LogValue) → IsTurn task → UnderWay old task → (IsSeal task → copies old task ≡ all_copies (changed old changes)) → Describes new after → StepsFor task old before Committed new after → Commits old task new → IsCompacted old changes new
compacted_for task old changes before new after h1 h2 h3 h4 h5 h6 = grind (arith, common_steps, held_active, waiting_count)

pub compacts : (old : List ℕ) (changes : List Change) (log : LogValue) (from at : ℕ) (step : Step) (new : List ℕ) (after : LogValue) → IsTurning old changes log from at → Describes old log → step ≡ Committed → EndsAs old log step new after → Commits old log.task new → IsCompacted old changes new
compacts old changes log from at step new after h1 h2 h3 h4 h5 = grind (arith, common_steps, compacted_for)

pub writes_turn : (old : List ℕ) (changes : List Change) (before : Job) (from at : ℕ) (new : List ℕ) (after : Job) → before ≡ Turning from at → IsCompacted old changes new → Writes before Stored old changes new after
writes_turn old changes before from at new after b c = rw b c

pub between_turned : (old : List ℕ) (changes : List Change) (log : LogValue) (from at : ℕ) (new : List ℕ) → IsTurning old changes log from at → Commits old log.task new → IsCompacted old changes new → (IsUsable old → IsUsable new) → IsBetween old changes new
between_turned old changes log from at new j c w u = between_copied old changes new (changed old changes) u (inr (turned_values old changes log from at new j c)) w.words_are (are_values old changes j.are_changes)

-- where changes are so far
pub written_none : (image : List ℕ) (changes : List Change) (job : Job) → GoesTo image changes job → WrittenSoFar image changes job image
written_none image changes job h1 = grind (arith, common_steps)

adds_next : (old middle new : List ℕ) (more : List ℕ) (at : ℕ) → at < length more → Adds old (take at more) middle → Adds middle (get_or more at 0 ∷ []) new → Adds old (take (at + 1) more) new
adds_next old middle new more at l a b = record {
  words_are = b.words_are ∙ rw a.words_are (append_assoc (words old) (take at more) (get_or more at 0 ∷ []) ∙ ap (λ (t : List ℕ). words old ++ t) (take_next more at l));
  active_is = b.active_is ∙ a.active_is;
  format_is = b.format_is ∙ a.format_is;
}

written_more : (old middle new : List ℕ) (changes : List Change) (before after : Job) → WrittenSoFar old changes before middle → WritesMore before middle changes new after → WrittenSoFar old changes after new
written_more old middle new changes before after h1 h2 = grind (arith, common_steps)

compacted_from : (old middle new : List ℕ) (changes : List Change) → Keeps old middle → target_page middle ≡ target_page old → IsCompacted middle changes new → IsCompacted old changes new
compacted_from old middle new changes h1 h2 h3 = grind (arith, common_steps, changed_kept, next_same)

written_last : (old middle new : List ℕ) (changes : List Change) (before : Job) → WrittenSoFar old changes before middle → WritesLast before middle changes new → AreWritten old changes new
written_last old middle new changes before h1 h2 = grind (arith, common_steps, take_all, adds_next, compacted_from)

pub written_step : (old middle new : List ℕ) (changes : List Change) (before after : Job) → WrittenSoFar old changes before middle → (IsBusy after → WritesMore before middle changes new after) → ((IsBusy after → ⊥) → WritesLast before middle changes new) → WrittenSoFar old changes after new
written_step old middle new changes before Resting s more last = written_last old middle new changes before s (last (λ b. b))
written_step old middle new changes before (Appending at) s more last = written_more old middle new changes before (Appending at) s (more tt)
written_step old middle new changes before (Turning from at) s more last = written_more old middle new changes before (Turning from at) s (more tt)

pub written_all : (old : List ℕ) (changes : List Change) (job : Job) (new : List ℕ) → WrittenSoFar old changes job new → (IsBusy job → ⊥) → AreWritten old changes new
written_all old changes job new h1 h2 = grind (arith, common_steps)
