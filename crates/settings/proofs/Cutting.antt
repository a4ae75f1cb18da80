-- What a cut of the power inside the next operation leaves.
use Rattle.std.proofs.lemmas.Grind.{common_steps}
use Rattle.std.proofs.Common.{◌≡◌, ◌∙◌, ℕ, ◌+◌, ◌<◌, ◌⊎◌, refl, subst, arith, List, [], ◌∷◌, ◌++◌, length, take, get_or, Option, Some, inl, inr}
use Rattle.std.proofs.lemmas.Bool.{cases_lt, cases_Bool}
use Rattle.records.specs.declared.Slot.{Slot}
use Rattle.records.specs.declared.Slot.TheVariants.{Good}
use Rattle.records.specs.Slots.{slot_of}
use Rattle.flash_model.specs.FlashOperation.{FlashOperation}
use Rattle.flash_model.specs.Image.{IsImage, slot_at}
use Rattle.page_turnover.specs.declared.log.ActivePage.{ActivePage}
use Rattle.page_turnover.specs.declared.operation.Operation.{Operation}
use Rattle.page_turnover.specs.declared.operation.Operation.TheVariants.{Program, Erase}
use Rattle.page_turnover.specs.Value.{LogValue, Task, Rest, Append, Wait, Copy, Seal}
use Rattle.page_turnover.specs.representation.Log.{Describes}
use Rattle.page_turnover.specs.Blank.{is_blank}
use Rattle.page_turnover.specs.Usable.{IsUsable}
use Rattle.page_turnover.specs.Words.{words}
use Rattle.page_turnover.specs.Turn.{copies, copied, next_seq, IsPending}
use Rattle.page_turnover.specs.Header.{header_word}
use Rattle.page_turnover.specs.Next.{next_operation, turn_operation, is_ready, on_flash, MayMake, ReadsBack}
use Rattle.page_turnover.specs.Steps.{CommitsWord, AttemptsNext, CountsAs}
use Rattle.page_turnover.specs.Leaves.{Leaves, IsEffect}
use Rattle.page_turnover.proofs.Blanks.{blank_of, is_blank-blank}
use Rattle.page_turnover.proofs.Leaving.{leaves}
use Rattle.settings.specs.declared.change.Change.{Change}
use Rattle.settings.specs.Words.{words_of, IsChange, AreValues}
use Rattle.settings.specs.Settings.{changed}
use Rattle.settings.specs.Copies.{all_copies}
use Rattle.settings.specs.Moments.{MayLeave, IsFault}
use Rattle.settings.specs.Works.{IsBeforeOrAfter, IsBetween}
use Rattle.settings.specs.representation.Store.{IsTurn, IsSeal}
use Rattle.settings.proofs.Storing.{words_more, same_more, stored_last, stored_turn}
use Rattle.settings.proofs.Known.{known_change, between_kept, between_added, between_copied}

-- whether an operation's target reads as intended
good_or : (slot : Slot) (word : ℕ) → (slot ≡ Good word) ⊎ (slot ≡ Good word → ⊥)
good_or slot word = grind (arith, common_steps)

reads_or : (operation : Operation) (image : List ℕ) → ReadsBack operation image ⊎ (ReadsBack operation image → ⊥)
reads_or (Program page slot word) image = good_or (slot_of (slot_at image page slot)) word
reads_or (Erase page) image =
    elim (cases_Bool (is_blank image page)) [
      | inl e ↦ inl (blank_of image page e)
      | inr e ↦ inr (λ b. let t = is_blank-blank image page b in cc)
    ]

may_make : (old : List ℕ) (operation : Operation) (new : List ℕ) → MayLeave old (on_flash operation) new → MayMake old operation new
may_make old operation new h1 = grind (arith, common_steps)

-- the operation that is next
pub record HasNext (old : List ℕ) (log : LogValue) : Type 0 where
  pub operation : Operation
  pub is : next_operation old log ≡ Some operation

pub append_next : (old : List ℕ) (log : LogValue) (word : ℕ) (place : ActivePage) → log.task ≡ Append word → log.active ≡ Some place → HasNext old log
append_next old log word place t a = record { operation = Program place.page place.tail word; is = rw (t, a) refl }

next_of : (task : Task) (old : List ℕ) (log : LogValue) → log.task ≡ task → IsTurn task → IsPending task → HasNext old log
next_of Rest old log e t p = absurd t
next_of (Append word) old log e t p = absurd t
next_of (Wait target) old log e t p = absurd p
next_of (Copy target word) old log e t p = record { operation = turn_operation (is_ready old target) old (copied target + 1) word; is = rw e refl }
next_of (Seal target) old log e t p = record { operation = turn_operation (is_ready old target) old 0 (header_word 2 (next_seq old)); is = rw e refl }

pub turn_next : (old : List ℕ) (log : LogValue) → IsTurn log.task → IsPending log.task → HasNext old log
turn_next old log t p = next_of log.task old log refl t p

-- inside the program of a word of a change
pub cut_append : (old : List ℕ) (changes : List Change) (log : LogValue) (next : HasNext old log) (first : List ℕ) (change : Change) (at word : ℕ) (left : List ℕ) → Describes old log → log.task ≡ Append word → word ≡ get_or (words_of change) at 0 → changes ≡ change ∷ [] → IsChange change
    → words old ≡ first ++ take at (words_of change) → at < length (words_of change) → IsImage left → MayLeave old (on_flash next.operation) left → IsBetween old changes left
cut_append old changes log next first change at word left d t w o c e l i m =
    let made : Leaves old log next.operation left = leaves old left log next.operation d next.is i (may_make old next.operation left m) in
    elim (reads_or next.operation left) [
      | inr k ↦ between_kept old changes left (λ u. made.usable) (made.kept k)
      | inl r ↦ (let E : Task → Type 0 = λ x. IsEffect old x next.operation left in
          let f : CommitsWord old word left = subst E t (made.effect r) in
          let n : words left ≡ first ++ take (at + 1) (words_of change) = words_more old left first change at word e l w f.words_are in
          let v : IsBeforeOrAfter old changes left =
          elim (cases_lt (at + 1) (length (words_of change))) [
            | inl more ↦ inl (same_more old left first change at c e n more)
            | inr last ↦ inr (stored_last old left first changes change at o c e n (omega arith))
          ] in
          between_added old changes left word (λ u. made.usable) v f.words_are (rw w (known_change change c at 0 l)))
    ]

-- inside an operation of a compaction
turn_effect : (task : Task) (old : List ℕ) (changes : List Change) (operation : Operation) (left : List ℕ) → IsTurn task → AreValues (changed old changes) → (IsSeal task → copies old task ≡ all_copies (changed old changes)) → IsUsable left → IsEffect old task operation left → IsBetween old changes left
turn_effect Rest old changes operation left t v s u f = absurd t
turn_effect (Append word) old changes operation left t v s u f = absurd t
turn_effect (Wait target) old changes operation left t v s u f = absurd f
turn_effect (Copy target word) old changes operation left t v s u f = between_kept old changes left (λ h. u) f
turn_effect (Seal target) old changes (Program page slot word) left t v s u f =
    between_copied old changes left (changed old changes) (λ h. u) (inr (stored_turn old left changes target v (s tt) f)) (f.words_are ∙ s tt) v
turn_effect (Seal target) old changes (Erase page) left t v s u f = between_kept old changes left (λ h. u) f

pub cut_turn : (old : List ℕ) (changes : List Change) (log : LogValue) (next : HasNext old log) (left : List ℕ) → Describes old log → IsTurn log.task → AreValues (changed old changes) → (IsSeal log.task → copies old log.task ≡ all_copies (changed old changes))
    → IsImage left → MayLeave old (on_flash next.operation) left → IsBetween old changes left
cut_turn old changes log next left d t v s i m =
    let made : Leaves old log next.operation left = leaves old left log next.operation d next.is i (may_make old next.operation left m) in
    elim (reads_or next.operation left) [
      | inl r ↦ turn_effect log.task old changes next.operation left t v s made.usable (made.effect r)
      | inr k ↦ between_kept old changes left (λ u. made.usable) (made.kept k)
    ]

-- an operation that is next, and failed
pub is_fault : {F : Type 0} (image : F → List ℕ) (operations faults : F → ℕ) (operates : F → FlashOperation → F → Type 0) (old new : F) (log : LogValue) (idle failed : Type 0) → (next : HasNext (image old) log) → AttemptsNext (next_operation (image old) log) (image old) idle failed (image new)
    → operates old (on_flash next.operation) new → CountsAs idle failed (operations old) (operations new) (faults old) (faults new) → failed → IsFault image faults operates old new
is_fault image operations faults operates old new log idle failed next a o c f =
    let N : Option Operation → Type 0 = λ x. AttemptsNext x (image old) idle failed (image new) in
    record { operation = next.operation; made = o; counted = c.fault f; unread = ((subst N next.is a).torn f).1 }
