use Rattle.std.proofs.Common.{◌≡◌, ℕ, zero, suc, ◌+◌, ◌-◌, ◌*◌, ◌/◌, ◌%◌, ◌^◌, ◌<◌, ◌≤◌, List, [], ◌∷◌, get_or, take, drop, arith, refl, sym, ◌∙◌, ap, inl, inr}
use Rattle.std.specs.Int.{bit_at}
use Rattle.std.specs.Int.Bits.{mask_lt}
use Rattle.std.proofs.lemmas.Bool.{cases_lt}
use Rattle.std.proofs.lemmas.List.{get_or-take, get_or-drop, get_or_past, length-take}
use Rattle.std.proofs.lemmas.Nat.{shr_split, and_mask}
use Rattle.std.proofs.lemmas.Nat.Bits.{bit_at-lt, bit_at-suc, bit_at-zero, bit_at_lowest, bit_at_cat_low, bit_at_cat_high, same_from_bits_below}
use Rattle.descriptor_parse.specs.Globals.{unsigned}
use Rattle.host_extract.specs.Numbers.{report_bit, number_at}

-- ---- the number that some bits make

pub number-lt : (bytes : List ℕ) (n bit : ℕ) → number_at bytes bit n < 2 ^ n
unfolding number_at
number-lt bytes zero bit = omega arith
number-lt bytes (suc n) bit = omega (arith, number-lt bytes n (bit + 1), bit_at-lt (get_or bytes (bit / 8) 0) (bit % 8))

pub number-bit : (bytes : List ℕ) (n bit i : ℕ) → i < n → bit_at (number_at bytes bit n) i ≡ report_bit bytes (bit + i)
unfolding number_at
number-bit bytes zero bit i l = absurd (omega arith)
number-bit bytes (suc n) bit zero l =
    let z : bit + 0 ≡ bit = omega arith in
    let r : report_bit bytes bit < 2 = bit_at-lt (get_or bytes (bit / 8) 0) (bit % 8) in
    rw z (bit_at_lowest (report_bit bytes bit + 2 * number_at bytes (bit + 1) n) ∙ omega arith)
number-bit bytes (suc n) bit (suc i) l =
    let s : bit + 1 + i ≡ bit + suc i = omega arith in
    let r : report_bit bytes bit < 2 = bit_at-lt (get_or bytes (bit / 8) 0) (bit % 8) in
    let h : (report_bit bytes bit + 2 * number_at bytes (bit + 1) n) / 2 ≡ number_at bytes (bit + 1) n = omega arith in
    bit_at-suc (report_bit bytes bit + 2 * number_at bytes (bit + 1) n) i ∙ ap (λ x. bit_at x i) h
    ∙ number-bit bytes n (bit + 1) i (omega arith) ∙ ap (report_bit bytes) s

pub number-one : (bytes : List ℕ) (bit size : ℕ) → size ≡ 1 → number_at bytes bit size ≡ report_bit bytes bit
unfolding number_at
number-one bytes bit size e = rw e (omega arith)

-- ---- bits of a number that is shifted or cut off

mod-pow : (n k : ℕ) → n % 2 ^ k < 2 ^ k
mod-pow n k = rw (and_mask n k) at (mask_lt n k)

bit-shifted : (n s i : ℕ) → bit_at (n / 2 ^ s) i ≡ bit_at n (s + i)
bit-shifted n s i =
    let e : s + i - s ≡ i = omega arith in
    sym (ap (bit_at (n / 2 ^ s)) e) ∙ sym (bit_at_cat_high (n / 2 ^ s) s (n % 2 ^ s) (s + i) (mod-pow n s) (omega arith)) ∙ ap (λ x. bit_at x (s + i)) (shr_split n s)

bit-cut : (n k i : ℕ) → i < k → bit_at (n % 2 ^ k) i ≡ bit_at n i
bit-cut n k i l = sym (bit_at_cat_low (n / 2 ^ k) k (n % 2 ^ k) i l) ∙ ap (λ x. bit_at x i) (shr_split n k)

-- ---- the number that some bytes make

abbrev pub Bytes : List ℕ → Type 0
Bytes bytes = (k : ℕ) → get_or bytes k 0 < 256

rest-bytes : (b : ℕ) (bs : List ℕ) → Bytes (b ∷ bs) → Bytes bs
rest-bytes b bs h k = h (suc k)

unsigned-bit : (bytes : List ℕ) (j : ℕ) → Bytes bytes → bit_at (unsigned bytes) j ≡ report_bit bytes j
unsigned-bit [] j h = bit_at-zero j ∙ sym (bit_at-zero (j % 8))
unsigned-bit (b ∷ bs) j h =
    let small : b < 2 ^ 8 = h 0 in
    let e : b + 256 * unsigned bs ≡ unsigned bs * 2 ^ 8 + b = omega arith in
    elim (cases_lt j 8) [
      | inl low ↦ (let a : j / 8 ≡ 0 = omega arith in
          let m : j % 8 ≡ j = omega arith in
          ap (λ x. bit_at x j) e ∙ bit_at_cat_low (unsigned bs) 8 b j low ∙ rw (a, m) refl)
      | inr high ↦ (let a : j / 8 ≡ suc ((j - 8) / 8) = omega arith in
          let m : j % 8 ≡ (j - 8) % 8 = omega arith in
          ap (λ x. bit_at x j) e ∙ bit_at_cat_high (unsigned bs) 8 b j small high ∙ unsigned-bit bs (j - 8) (rest-bytes b bs h) ∙ rw (a, m) refl)
    ]

five-bytes : (bytes : List ℕ) (first : ℕ) → Bytes bytes → Bytes (take 5 (drop first bytes))
five-bytes bytes first h k = elim (cases_lt k 5) [
  | inl low ↦ (rw (get_or-take 5 (drop first bytes) k 0 low, get_or-drop first bytes k 0) (h (first + k)))
  | inr high ↦ (let past : get_or (take 5 (drop first bytes)) k 0 ≡ 0 = get_or_past (take 5 (drop first bytes)) k 0 (omega (arith, length-take 5 (drop first bytes))) in omega arith)
]

five-bit : (bytes : List ℕ) (first j : ℕ) → j < 40 → report_bit (take 5 (drop first bytes)) j ≡ report_bit bytes (8 * first + j)
five-bit bytes first j l =
    let a : (8 * first + j) / 8 ≡ first + j / 8 = omega arith in
    let m : (8 * first + j) % 8 ≡ j % 8 = omega arith in
    rw (get_or-take 5 (drop first bytes) (j / 8) 0 (omega arith), get_or-drop first bytes (j / 8) 0, a, m) refl

pub number-five : (bytes : List ℕ) (bit n : ℕ) → n ≤ 32 → Bytes bytes
    → (unsigned (take 5 (drop (bit / 8) bytes)) / 2 ^ (bit % 8)) % 2 ^ n ≡ number_at bytes bit n
number-five bytes bit n small h =
    let w = unsigned (take 5 (drop (bit / 8) bytes)) in
    same_from_bits_below n ((w / 2 ^ (bit % 8)) % 2 ^ n) (number_at bytes bit n) (mod-pow (w / 2 ^ (bit % 8)) n) (number-lt bytes n bit)
    (λ i l.
    let e : 8 * (bit / 8) + (bit % 8 + i) ≡ bit + i = omega arith in
    bit-cut (w / 2 ^ (bit % 8)) n i l ∙ bit-shifted w (bit % 8) i
    ∙ unsigned-bit (take 5 (drop (bit / 8) bytes)) (bit % 8 + i) (five-bytes bytes (bit / 8) h)
    ∙ five-bit bytes (bit / 8) (bit % 8 + i) (omega arith) ∙ ap (report_bit bytes) e ∙ sym (number-bit bytes n bit i l))

-- eight bits from the first bit of a byte on are that byte
pub number-byte : (bytes : List ℕ) (bit size : ℕ) → size ≡ 8 → bit % 8 ≡ 0 → Bytes bytes → number_at bytes bit size ≡ get_or bytes (bit / 8) 0
number-byte bytes bit size e z h =
    let small : get_or bytes (bit / 8) 0 < 2 ^ 8 = h (bit / 8) in
    rw e (same_from_bits_below 8 (number_at bytes bit 8) (get_or bytes (bit / 8) 0) (number-lt bytes 8 bit) small
    (λ i l.
    let a : (bit + i) / 8 ≡ bit / 8 = omega arith in
    let m : (bit + i) % 8 ≡ i = omega arith in
    number-bit bytes 8 bit i l ∙ rw (a, m) refl))
