use Rattle.std.proofs.Common.{◌≡◌, ℕ, ◌+◌, ◌-◌, ◌≤◌, ◌<◌, suc, zero, List, [], ◌++◌, refl, arith, ◌∙◌, subst}
use Rattle.std.proofs.Common.{inl, inr}
use Rattle.std.proofs.lemmas.Bool.{cases_lt}
use Rattle.std.proofs.lemmas.List.{append-nil}
use Rattle.std.proofs.Common.{append_assoc}
use Rattle.records.specs.declared.Slot.{Slot}
use Rattle.records.specs.declared.Slot.TheVariants.{Free, Good, Spoiled}
use Rattle.flash_model.specs.Operations.{OneSlot}
use Rattle.flash_model.specs.Image.{slot_at}
use Rattle.records.specs.Slots.{slot_of}
use Rattle.page_turnover.specs.Words.{word_of, words_up_to, FreeFrom}
use Rattle.page_turnover.specs.representation.Words.{words_after}

-- one slot more
pub up_to_more : (image : List ℕ) (page slot : ℕ) → 1 ≤ slot → words_up_to image page slot ≡ words_up_to image page (slot - 1) ++ word_of (slot_of (slot_at image page slot))
unfolding words_up_to
up_to_more image page zero l = absurd (omega arith)
up_to_more image page (suc n) l = let e : suc n - 1 ≡ n = omega arith in rw e refl

-- one slot less to come
pub words_after_less : (image : List ℕ) (page slot end : ℕ) → slot < end → words_after image page slot (end - slot) ≡ word_of (slot_of (slot_at image page slot)) ++ words_after image page (slot + 1) (end - (slot + 1))
unfolding words_after
words_after_less image page slot end l =
    let e : end - slot ≡ suc (end - (slot + 1)) = omega arith in
    let f : slot + 1 ≡ suc slot = omega arith in
    rw (e, f) refl

pub words_after_end : (image : List ℕ) (page slot end : ℕ) → end ≤ slot → words_after image page slot (end - slot) ≡ []
unfolding words_after
words_after_end image page slot end l = let e : end - slot ≡ 0 = omega arith in rw e refl

-- what is not Good has no word
pub word_of_none : (s : Slot) → ((w : ℕ) → s ≡ Good w → ⊥) → word_of s ≡ []
word_of_none Free h = refl
word_of_none (Good w) h = absurd (h w refl)
word_of_none Spoiled h = refl

-- slots that agree have the same words
pub words_same : (old new : List ℕ) (page n : ℕ) → ((s : ℕ) → 1 ≤ s → s ≤ n → slot_at new page s ≡ slot_at old page s) → words_up_to new page n ≡ words_up_to old page n
unfolding words_up_to
words_same old new page zero h = refl
words_same old new page (suc n) h = rw (words_same old new page n (λ s a b. h s a (omega arith)), h (suc n) (omega arith) (omega arith)) refl

-- free slots at the end have none
pub words_free : (image : List ℕ) (page m n : ℕ) → m ≤ n → ((s : ℕ) → m < s → s ≤ n → slot_of (slot_at image page s) ≡ Free) → words_up_to image page n ≡ words_up_to image page m
words_free image page m zero l h = let e : m ≡ 0 = omega arith in rw e refl
words_free image page m (suc n) l h =
    elim (cases_lt n m) [
      | inl a ↦ (let e : m ≡ suc n = omega arith in rw e refl)
      | inr a ↦ (let e : suc n - 1 ≡ n = omega arith in
          up_to_more image page (suc n) (omega arith) ∙ rw (e, h (suc n) (omega arith) (omega arith)) (append-nil (words_up_to image page n) ∙ words_free image page m n a (λ s b c. h s b (omega arith))))
    ]

-- a word in the first free slot is appended
pub words_appended : (old new : List ℕ) (page tail : ℕ) → 1 ≤ tail → tail ≤ 511 → FreeFrom old page tail → OneSlot old page tail new
    → words_up_to new page 511 ≡ words_up_to old page 511 ++ word_of (slot_of (slot_at new page tail))
words_appended old new page tail low high free one =
    let a : words_up_to new page 511 ≡ words_up_to new page tail =
    words_free new page tail 511 high (λ s b c. rw (one.others page s (omega arith) (λ e f. omega arith)) (free s (omega arith) (omega arith))) in
    let b : words_up_to old page 511 ≡ words_up_to old page (tail - 1) =
    words_free old page (tail - 1) 511 (omega arith) (λ s b c. free s (omega arith) (omega arith)) in
    let c : words_up_to new page (tail - 1) ≡ words_up_to old page (tail - 1) =
    words_same old new page (tail - 1) (λ s x y. one.others page s (omega arith) (λ e f. omega arith)) in
    a ∙ up_to_more new page tail low ∙ rw (c, b) refl

pub words_none : (image : List ℕ) (page : ℕ) → words_up_to image page 0 ≡ []
unfolding words_up_to
words_none image page = refl

-- the words up to a slot, and those after it
pub words_up_to_after : (image : List ℕ) (page n m : ℕ) → words_up_to image page n ++ words_after image page (n + 1) m ≡ words_up_to image page (n + m)
unfolding words_after
words_up_to_after image page n zero = let z : n + 0 ≡ n = omega arith in rw z (append-nil (words_up_to image page n))
words_up_to_after image page n (suc m) =
    let e : suc (n + 1) ≡ n + 1 + 1 = omega arith in
    let f : n + 1 + m ≡ n + suc m = omega arith in
    let g : n + 1 - 1 ≡ n = omega arith in
    let h = rw g at (up_to_more image page (n + 1) (omega arith)) in
    let r = words_up_to_after image page (n + 1) m in
    rw (e) (rw (← append_assoc, ← h, ← f) r)

pub words_from_first : (image : List ℕ) (page n : ℕ) → words_after image page 1 n ≡ words_up_to image page n
words_from_first image page n =
    let e : 0 + n ≡ n = omega arith in
    let P : ℕ → Type 0 = λ k. words_after image page 1 n ≡ words_up_to image page k in
    subst P e (rw (words_none image page) at (words_up_to_after image page 0 n))
