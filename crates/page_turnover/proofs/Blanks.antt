use Rattle.std.proofs.Common.{◌≡◌, ◌↔◌, Bool, sym, ℕ, zero, suc, ◌<◌, List, true, false, refl, arith, inl, inr}
use Rattle.std.proofs.lemmas.Bool.{cases_eq, cases_Bool, and_parts}
use Rattle.records.specs.declared.Slot.{Slot}
use Rattle.records.specs.declared.Slot.TheVariants.{Free, Good, Spoiled}
use Rattle.records.specs.Slots.{slot_of}
use Rattle.flash_model.specs.Image.{slot_at}
use Rattle.page_turnover.specs.Words.{IsBlank}
use Rattle.records.specs.Blocks.{is_free}
use Rattle.page_turnover.specs.Blank.{is_free_below, is_blank}

is_free-true : (slot : Slot) → is_free slot ≡ true → slot ≡ Free
is_free-true Free e = refl
is_free-true (Good word) e = cc
is_free-true Spoiled e = cc

is_free_below-is : (image : List ℕ) (page n : ℕ) → ((s : ℕ) → s < n → slot_of (slot_at image page s) ≡ Free) → is_free_below image page n ≡ true
unfolding is_free_below
is_free_below-is image page zero h = refl
is_free_below-is image page (suc n) h = rw (h n (omega arith), is_free_below-is image page n (λ s l. h s (omega arith))) refl

free_of : (image : List ℕ) (page n : ℕ) → is_free_below image page n ≡ true → (s : ℕ) → s < n → slot_of (slot_at image page s) ≡ Free
unfolding is_free_below
free_of image page zero e s l = absurd (omega arith)
free_of image page (suc n) e s l =
    let p = and_parts (is_free (slot_of (slot_at image page n))) (is_free_below image page n) e in
    elim (cases_eq s n) [
      | inl q ↦ rw q (is_free-true (slot_of (slot_at image page n)) p.0)
      | inr d ↦ free_of image page n p.1 s (omega arith)
    ]

-- the test is true of a blank page alone
pub blank_of : (image : List ℕ) (page : ℕ) → is_blank image page ≡ true → IsBlank image page
unfolding is_blank
blank_of image page e s a l = free_of image page 512 e s l

-- and of each
pub is_blank-blank : (image : List ℕ) (page : ℕ) → IsBlank image page → is_blank image page ≡ true
unfolding is_blank
is_blank-blank image page b = is_free_below-is image page 512 (λ s l. b s (omega arith) l)

pub is_blank-used : (image : List ℕ) (page : ℕ) → (IsBlank image page → ⊥) → is_blank image page ≡ false
unfolding is_blank
is_blank-used image page u = elim (cases_Bool (is_blank image page)) [
  | inl e ↦ absurd (u (λ s a l. free_of image page 512 e s l))
  | inr e ↦ e
]

-- a test that tells of each page whether it is blank is this one
pub blank_test : (image : List ℕ) (page : ℕ) (held : Bool) → ((held ≡ true) ↔ IsBlank image page) → held ≡ is_blank image page
blank_test image page true h = sym (is_blank-blank image page (h.0 refl))
blank_test image page false h = sym (is_blank-used image page (λ b. let e = h.1 b in cc))
