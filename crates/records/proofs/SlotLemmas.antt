use Rattle.std.proofs.lemmas.Grind.{common_steps}
use Rattle.std.proofs.Common.{◌≡◌, ◌≢◌, ℕ, ◌+◌, ◌-◌, ◌*◌, ◌<◌, ◌^◌, Bool, true, ◌==◌, ◌&&◌, if◌then◌else◌, List, length, get_or, bit_and, refl, arith, ◌∙◌, sym, replicate, subst, lit<, inl, inr}
use Rattle.std.proofs.lemmas.Bool.Decides.{nat_tests}
use Rattle.std.proofs.lemmas.Grind.{same_number_lists}
use Rattle.std.proofs.lemmas.List.{get_or-take, get_or-drop, get_or_past, get_or-replicate}
use Rattle.std.proofs.lemmas.Bool.{cases_lt, eqb-true}
use Rattle.std.proofs.lemmas.Nat.{and_comm, and_mask}
use Rattle.std.proofs.lemmas.Nat.Bits.{bit_at-zero, bit_at_ones}
use Rattle.std.specs.Int.{bit_at}
use Rattle.records.specs.declared.Slot.{Slot}
use Rattle.records.specs.declared.Slot.TheVariants.{Free, Good, Spoiled}
use Rattle.records.specs.Slots.{IsSlot, IsSound, slot_of, encoded, first_half, second_half}
use Rattle.flash_model.specs.Torn.{Within, ProgramMayLeave}
use Rattle.records.proofs.BitsOf.{pinned, below_four, complement_bits}

-- the tests behind an answer
free_if : (a b c : Bool) (w : ℕ) → (if a && b then Free else (if c then Good w else Spoiled)) ≡ Free → (a ≡ true) × (b ≡ true)
free_if a b c w h1 = grind (arith, common_steps)

good_if : (a b c : Bool) (w v : ℕ) → (if a && b then Free else (if c then Good w else Spoiled)) ≡ Good v → (c ≡ true) × (w ≡ v)
good_if a b c w v h1 = grind (arith, common_steps)

-- each half as its bytes
pub first_is : (y : List ℕ) → first_half y ≡ get_or y 0 0 + get_or y 1 0 * 256 + get_or y 2 0 * 65536 + get_or y 3 0 * 16777216
first_is y = grind (arith, common_steps, get_or-take)

pub second_is : (y : List ℕ) → second_half y ≡ get_or y 4 0 + get_or y 5 0 * 256 + get_or y 6 0 * 65536 + get_or y 7 0 * 16777216
second_is y = grind (arith, common_steps, get_or-drop)

-- a Good slot has its word and the complement
pub good_halves : (y : List ℕ) (word : ℕ) → slot_of y ≡ Good word → (first_half y ≡ word) × (second_half y ≡ 2 ^ 32 - 1 - word)
unfolding slot_of
good_halves y word h1 = grind (arith, common_steps, good_if, eqb-true)

-- and each byte beside its complement
pub good_pairs : (y : List ℕ) (word : ℕ) → IsSlot y → slot_of y ≡ Good word → (k : ℕ) → k < 4 → get_or y k 0 + get_or y (k + 4) 0 ≡ 255
good_pairs y word s e =
    let h = good_halves y word e in
    let f = first_is y in
    let t = second_is y in
    let P : ℕ → Type 0 = λ k. get_or y k 0 + get_or y (k + 4) 0 ≡ 255 in
    let byte : (k : ℕ) → get_or y k 0 < 256 = s.each in
    below_four P
    (omega (arith, byte 0, byte 1, byte 2, byte 3, byte 4, byte 5, byte 6, byte 7))
    (omega (arith, byte 0, byte 1, byte 2, byte 3, byte 4, byte 5, byte 6, byte 7))
    (omega (arith, byte 0, byte 1, byte 2, byte 3, byte 4, byte 5, byte 6, byte 7))
    (omega (arith, byte 0, byte 1, byte 2, byte 3, byte 4, byte 5, byte 6, byte 7))

-- a free slot has each bit set
pub free_bytes : (x : List ℕ) → IsSlot x → slot_of x ≡ Free → (k : ℕ) → k < 4 → (get_or x k 0 ≡ 255) × (get_or x (k + 4) 0 ≡ 255)
unfolding slot_of
free_bytes x s e =
    let g : ((first_half x == 2 ^ 32 - 1) ≡ true) × ((second_half x == 2 ^ 32 - 1) ≡ true) = free_if (first_half x == 2 ^ 32 - 1) (second_half x == 2 ^ 32 - 1) (second_half x == 2 ^ 32 - 1 - first_half x) (first_half x) e in
    let h : first_half x ≡ 2 ^ 32 - 1 = eqb-true _ _ g.0 in
    let i : second_half x ≡ 2 ^ 32 - 1 = eqb-true _ _ g.1 in
    let f = first_is x in
    let t = second_is x in
    let P : ℕ → Type 0 = λ k. (get_or x k 0 ≡ 255) × (get_or x (k + 4) 0 ≡ 255) in
    let byte : (k : ℕ) → get_or x k 0 < 256 = s.each in
    below_four P
    (omega (arith, byte 0, byte 1, byte 2, byte 3), omega (arith, byte 4, byte 5, byte 6, byte 7))
    (omega (arith, byte 0, byte 1, byte 2, byte 3), omega (arith, byte 4, byte 5, byte 6, byte 7))
    (omega (arith, byte 0, byte 1, byte 2, byte 3), omega (arith, byte 4, byte 5, byte 6, byte 7))
    (omega (arith, byte 0, byte 1, byte 2, byte 3), omega (arith, byte 4, byte 5, byte 6, byte 7))

pub all_eight : (x : List ℕ) → IsSlot x → slot_of x ≡ Free → (k : ℕ) → k < 8 → get_or x k 0 ≡ 255
all_eight x s e k l =
    elim (cases_lt k 4) [
      | inl below ↦ (free_bytes x s e k below).0
      | inr above ↦ let P : ℕ → Type 0 = λ j. get_or x j 0 ≡ 255 in let f : k - 4 + 4 ≡ k = omega arith in subst P f (free_bytes x s e (k - 4) (omega arith)).1
    ]

-- more bits keep a slot sound
pub sound_within : (x y : List ℕ) → IsSound x → Within x y → IsSound y
sound_within x y s w = record { covers = λ k l i m. omega (arith, s.covers k l i m, w.bits k i, w.bits (k + 4) i) }

-- a list of eight by its two halves
by_halves : (x y : List ℕ) → length x ≡ 8 → length y ≡ 8 → ((k : ℕ) → k < 4 → (get_or y k 0 ≡ get_or x k 0) × (get_or y (k + 4) 0 ≡ get_or x (k + 4) 0)) → y ≡ x
by_halves x y ex ey h =
    same_number_lists y x (omega arith) (λ k l.
    elim (cases_lt k 4) [
      | inl below ↦ (h k below).0
      | inr above ↦ let P : ℕ → Type 0 = λ j. get_or y j 0 ≡ get_or x j 0 in let e : k - 4 + 4 ≡ k = omega arith in subst P e (h (k - 4) (omega arith)).1
    ])

-- four bytes by their number
same_four : (a b c d p q r s : ℕ) → a < 256 → b < 256 → c < 256 → d < 256 → p < 256 → q < 256 → r < 256 → s < 256 → a + b * 256 + c * 65536 + d * 16777216 ≡ p + q * 256 + r * 65536 + s * 16777216 → (a ≡ p) × (b ≡ q) × (c ≡ r) × (d ≡ s)
same_four a b c d p q r s la lb lc ld lp lq lr ls e = (omega arith, omega arith, omega arith, omega arith)

-- a slot by the numbers of its halves
pub same_halves : (x y : List ℕ) → IsSlot x → IsSlot y → first_half y ≡ first_half x → second_half y ≡ second_half x → y ≡ x
same_halves x y sx sy e f =
    let a = same_four _ _ _ _ _ _ _ _ (sy.each 0) (sy.each 1) (sy.each 2) (sy.each 3) (sx.each 0) (sx.each 1) (sx.each 2) (sx.each 3) (sym (first_is y) ∙ e ∙ first_is x) in
    let b = same_four _ _ _ _ _ _ _ _ (sy.each 4) (sy.each 5) (sy.each 6) (sy.each 7) (sx.each 4) (sx.each 5) (sx.each 6) (sx.each 7) (sym (second_is y) ∙ f ∙ second_is x) in
    let P : ℕ → Type 0 = λ k. (get_or y k 0 ≡ get_or x k 0) × (get_or y (k + 4) 0 ≡ get_or x (k + 4) 0) in
    by_halves x y sx.eight sy.eight (below_four P (a.0, b.0) (a.1, b.1) (a.2, b.2) (a.3, b.3))

-- and Good only with the bytes that were there
pub good_within : (x y : List ℕ) (word : ℕ) → IsSlot x → IsSlot y → IsSound x → Within x y → slot_of y ≡ Good word → y ≡ x
good_within x y word sx sy sound w e =
    by_halves x y sx.eight sy.eight (λ k l. pinned _ _ _ _ (sx.each k) (sx.each (k + 4)) (sound.covers k l) (w.bits k) (w.bits (k + 4)) (good_pairs y word sy e k l))

-- an encoded word is a slot
pub encoded_byte : (word k : ℕ) → get_or (encoded word) k 0 < 256
unfolding encoded
encoded_byte word k = grind (arith, common_steps)

pub encoded_slot : (word : ℕ) → IsSlot (encoded word)
unfolding encoded
encoded_slot word = record { eight = refl; each = encoded_byte word }

-- whose halves are the word and its complement
pub first_half-encoded : (word : ℕ) → word < 2 ^ 32 → first_half (encoded word) ≡ word
unfolding encoded
first_half-encoded word l = first_is (encoded word) ∙ omega arith

pub second_half-encoded : (word : ℕ) → word < 2 ^ 32 → second_half (encoded word) ≡ 2 ^ 32 - 1 - word
unfolding encoded
second_half-encoded word l = second_is (encoded word) ∙ omega arith

good_from : (p q w : ℕ) → w < 2 ^ 32 → p ≡ w → q ≡ 2 ^ 32 - 1 - w → (if (p == 2 ^ 32 - 1) && (q == 2 ^ 32 - 1) then Free else (if q == 2 ^ 32 - 1 - p then Good p else Spoiled)) ≡ Good w
good_from p q w l ep eq = grind (arith, nat_tests)

-- and which holds the word
pub slot_of-encoded : (word : ℕ) → word < 2 ^ 32 → slot_of (encoded word) ≡ Good word
unfolding slot_of
slot_of-encoded word l = good_from _ _ word l (first_half-encoded word l) (second_half-encoded word l)

-- a Good slot is its word encoded
pub good_word : (y : List ℕ) (word : ℕ) → IsSlot y → slot_of y ≡ Good word → word < 2 ^ 32
good_word y word s e =
    let w = (good_halves y word e).0 in
    let f = first_is y in
    omega (arith, s.each 0, s.each 1, s.each 2, s.each 3)

pub good_is_encoded : (y : List ℕ) (word : ℕ) → IsSlot y → slot_of y ≡ Good word → y ≡ encoded word
good_is_encoded y word s e =
    let h = good_halves y word e in
    let l = good_word y word s e in
    same_halves (encoded word) y (encoded_slot word) s (h.0 ∙ sym (first_half-encoded word l)) (h.1 ∙ sym (second_half-encoded word l))

pub good_sound : (y : List ℕ) (word : ℕ) → IsSlot y → slot_of y ≡ Good word → IsSound y
good_sound y word s e = record { covers = λ k m i n. omega (arith, complement_bits _ _ (good_pairs y word s e k m) i n) }

pub encoded_sound : (word : ℕ) → word < 2 ^ 32 → IsSound (encoded word)
encoded_sound word l = good_sound (encoded word) word (encoded_slot word) (slot_of-encoded word l)

-- a slot of ones is Free, and no other slot is
pub slot_of-blank : slot_of (replicate 8 255) ≡ Free
unfolding slot_of
slot_of-blank = refl

pub blank_slot : IsSlot (replicate 8 255)
blank_slot = grind (arith, common_steps, cases_lt, get_or-replicate, get_or_past)

pub free_is_blank : (x : List ℕ) → IsSlot x → slot_of x ≡ Free → x ≡ replicate 8 255
free_is_blank x s e = same_number_lists x (replicate 8 255) s.eight (λ k l. let b : k < 8 = omega (arith, s.eight) in all_eight x s e k b ∙ sym (get_or-replicate 8 k 255 0 b))

pub free_sound : (x : List ℕ) → IsSlot x → slot_of x ≡ Free → IsSound x
free_sound x s e = record {
  covers = λ k m i n.
      let o : bit_at 255 i ≡ 1 = bit_at_ones 8 i n in
      let a : bit_at (get_or x k 0) i ≡ 1 = rw (free_bytes x s e k m).0 o in
      omega arith;
}

by_kind : (x : List ℕ) → IsSlot x → (kind : Slot) → slot_of x ≡ kind → slot_of x ≢ Spoiled → IsSound x
by_kind x s Free e n = free_sound x s e
by_kind x s (Good word) e n = good_sound x word s e
by_kind x s Spoiled e n = absurd (n e)

pub not_spoiled_sound : (x : List ℕ) → IsSlot x → slot_of x ≢ Spoiled → IsSound x
not_spoiled_sound x s n = by_kind x s (slot_of x) refl n

-- a byte of ones keeps what is programmed
pub ones_and : (d : ℕ) → d < 256 → bit_and 255 d ≡ d
ones_and d l = and_comm 255 d ∙ and_mask d 8 ∙ omega arith

pub and_encoded : (word k : ℕ) → k < 8 → bit_and (get_or (replicate 8 255) k 0) (get_or (encoded word) k 0) ≡ get_or (encoded word) k 0
and_encoded word k l = rw (get_or-replicate {A = ℕ} 8 k 255 0 l) (ones_and _ (encoded_byte word k))

-- a whole program of a Free slot with an encoded word leaves that word encoded
pub programmed_free : (word : ℕ) (x y : List ℕ) → IsSlot x → slot_of x ≡ Free → length y ≡ 8 → ((k : ℕ) → k < 8 → get_or y k 0 ≡ bit_and (get_or x k 0) (get_or (encoded word) k 0)) → y ≡ encoded word
programmed_free word x y h1 h2 h3 h4 = grind (arith, common_steps, same_number_lists, encoded_slot, all_eight, ones_and, encoded_byte)

-- a torn program of a Free slot leaves the bits of the word
pub program_within : (word : ℕ) (x y : List ℕ) → IsSlot x → slot_of x ≡ Free → ProgramMayLeave x (encoded word) y → Within (encoded word) y
program_within word x y sx e p = record {
  same_length = (encoded_slot word).eight ∙ sym sx.eight ∙ sym p.clears_only.same_length;
  bits = λ k i. elim (cases_lt k 8) [
    | inl l ↦ (let o : get_or x k 0 ≡ 255 = all_eight x sx e k l in
        let m : bit_and (get_or x k 0) (get_or (encoded word) k 0) ≡ get_or (encoded word) k 0 = rw o (ones_and _ (encoded_byte word k)) in
        rw m at (p.keeps k i))
    | inr l ↦ (let z : get_or (encoded word) k 0 ≡ 0 = get_or_past (encoded word) k 0 (rw (encoded_slot word).eight l) in rw z (omega (arith, bit_at-zero i)))
  ];
}
