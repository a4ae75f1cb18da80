-- The mask of the Good slots of a block, slot by slot.
use Rattle.std.proofs.Common.{◌≡◌, ◌∙◌, ℕ, suc, ◌+◌, ◌*◌, ◌/◌, ◌%◌, ◌<◌, if◌then◌else◌, List, [], refl, sym, ap, subst, arith}
use Rattle.std.specs.Int.{bit_at}
use Rattle.std.proofs.lemmas.Nat.Bits.{bit_at-suc, bit_at_lowest}
use Rattle.records.specs.declared.Slot.{Slot}
use Rattle.records.specs.declared.Slot.TheVariants.{Free, Good, Spoiled}
use Rattle.records.specs.Slots.{slot_of, first_half}
use Rattle.records.proofs.SlotLemmas.{good_halves}
use Rattle.records.specs.Blocks.{is_good}
use Rattle.flash_model.specs.Image.{slot_at}
use Rattle.page_turnover.specs.Words.{word_of}
use Rattle.page_turnover.specs.representation.Turn.{IsGood}
use Rattle.page_turnover.specs.representation.Blocks.{AreGoodFrom, AreGoodWithin}

good_zero : (s : Slot) → ◌≡◌ {A = ℕ} (if is_good s then 1 else 0) 0 → word_of s ≡ []
good_zero Free e = refl
good_zero (Good word) e = absurd (omega arith)
good_zero Spoiled e = refl

-- the lowest bit is that of the slot itself
lowest : (image : List ℕ) (page slot good : ℕ) → AreGoodFrom image page slot good → good % 2 ≡ (if is_good (slot_of (slot_at image page slot)) then 1 else 0)
lowest image page slot good h =
    let e : slot + 0 ≡ slot = omega arith in
    let P : ℕ → Type 0 = λ s. bit_at good 0 ≡ (if is_good (slot_of (slot_at image page s)) then 1 else 0) in
    sym (bit_at_lowest good) ∙ subst P e (h 0 (omega arith))

pub no_word : (image : List ℕ) (page slot good : ℕ) → AreGoodFrom image page slot good → (good % 2 ≡ 1 → ⊥) → word_of (slot_of (slot_at image page slot)) ≡ []
no_word image page slot good h n = good_zero (slot_of (slot_at image page slot)) (sym (lowest image page slot good h) ∙ let z : good % 2 ≡ 0 = omega (arith, n) in z)

-- the other bits are those of the slots after it
pub good_next : (image : List ℕ) (page slot good : ℕ) → AreGoodFrom image page slot good → AreGoodWithin image page (slot + 1) (good / 2)
good_next image page slot good h within i l =
    let e : slot + suc i ≡ slot + 1 + i = omega arith in
    let inside : slot % 8 + suc i < 8 = omega arith in
    let P : ℕ → Type 0 = λ s. bit_at (good / 2) i ≡ (if is_good (slot_of (slot_at image page s)) then 1 else 0) in
    subst P e (sym (bit_at-suc good i) ∙ h (suc i) inside)

-- after the header
pub good_first : (image : List ℕ) (page good : ℕ) → ((i : ℕ) → i < 8 → bit_at good i ≡ (if is_good (slot_of (slot_at image page (8 * 0 + i))) then 1 else 0)) → AreGoodWithin image page 1 (good / 2)
good_first image page good h = good_next image page 0 good (λ i l. let e : 8 * 0 + i ≡ 0 + i = omega arith in let P : ℕ → Type 0 = λ s. bit_at good i ≡ (if is_good (slot_of (slot_at image page s)) then 1 else 0) in subst P e (h i (omega arith)))

by_half : (bytes : List ℕ) (word : ℕ) (s : Slot) → slot_of bytes ≡ s → IsGood s → word ≡ first_half bytes → slot_of bytes ≡ Good word
by_half bytes word Free e g h = absurd g
by_half bytes word (Good w) e g h = e ∙ ap Good (sym (good_halves bytes w e).0 ∙ sym h)
by_half bytes word Spoiled e g h = absurd g

-- the word of a Good slot is its first half
pub word_of_half : (bytes : List ℕ) (word : ℕ) → IsGood (slot_of bytes) → word ≡ first_half bytes → slot_of bytes ≡ Good word
word_of_half bytes word g h = by_half bytes word (slot_of bytes) refl g h
