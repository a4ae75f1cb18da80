-- The words of 32 bits in four bytes each, and what is computed of them at once.
use Rattle.std.proofs.Common.{◌≡◌, ℕ, ◌+◌, ◌-◌, ◌*◌, ◌/◌, ◌%◌, ◌^◌, ◌<◌, ◌&&◌, Bool, true, false, List, [], ◌∷◌, get_or, length, bit_or, bit_xor, arith, sym, ◌∙◌, subst, ap, zero, suc, refl, w32, nat_lt, nat_eq}
use Rattle.std.specs.Int.{from_le_bytes, rotate_left}
use Rattle.std.specs.Cmp.Lexicographic.{bytes_decides}
use Rattle.std.proofs.lemmas.Bool.Decides.{nat_tests}
use Rattle.std.proofs.lemmas.Nat.{or_shifted, xor_block, xor_of_8}
use Rattle.std.proofs.lemmas.Grind.{same_number_lists}
use Rattle.ecc_flash.specs.Units.{IsEight}
use Rattle.ecc_flash.specs.Reading.{same, paired, is_word}

-- four bytes, the low one first
abbrev pub packed : ℕ → ℕ → ℕ → ℕ → ℕ
packed a b c d = ((d * 2 ^ 8 + c) * 2 ^ 8 + b) * 2 ^ 8 + a

-- turned by a byte
rotated : (a b c d : ℕ) → a < 256 → b < 256 → c < 256 → d < 256 → rotate_left w32 (packed a b c d) 8 ≡ packed d a b c
rotated a b c d la lb lc ld =
    let low : (packed a b c d * 2 ^ 8) % 2 ^ 32 ≡ ((c * 2 ^ 8 + b) * 2 ^ 8 + a) * 2 ^ 8 = omega arith in
    let high : packed a b c d / 2 ^ 24 ≡ d = omega arith in
    rw (low, high) (or_shifted ((c * 2 ^ 8 + b) * 2 ^ 8 + a) 8 d ld)

-- byte by byte
xor_packed : (a b c d e f g h : ℕ) → a < 256 → b < 256 → c < 256 → e < 256 → f < 256 → g < 256 → bit_xor (packed a b c d) (packed e f g h) ≡ packed (bit_xor a e) (bit_xor b f) (bit_xor c g) (bit_xor d h)
xor_packed a b c d e f g h la lb lc le lf lg =
    rw (xor_block 8 ((d * 2 ^ 8 + c) * 2 ^ 8 + b) ((h * 2 ^ 8 + g) * 2 ^ 8 + f) a e la le, xor_block 8 (d * 2 ^ 8 + c) (h * 2 ^ 8 + g) b f lb lf, xor_block 8 d h c g lc lg) refl

pub turned : (a b c d n : ℕ) → a < 256 → b < 256 → c < 256 → d < 256 → n ≡ packed a b c d → bit_xor n (rotate_left w32 n 8) ≡ packed (bit_xor a d) (bit_xor b a) (bit_xor c b) (bit_xor d c)
turned a b c d n la lb lc ld is =
    rw (is, rotated a b c d la lb lc ld) (xor_packed a b c d d a b c la lb lc ld la lb)

-- the last four bytes are the complements of the first where they are so as numbers
beside_each : (u : List ℕ) → IsEight u → packed (get_or u 4 0) (get_or u 5 0) (get_or u 6 0) (get_or u 7 0) ≡ 4294967295 - packed (get_or u 0 0) (get_or u 1 0) (get_or u 2 0) (get_or u 3 0)
    → (k : ℕ) → k < 8 → get_or u k 0 ≡ get_or (paired (get_or u 0 0) (get_or u 1 0) (get_or u 2 0) (get_or u 3 0)) k 0
unfolding paired
beside_each u e is zero l = refl
beside_each u e is (suc zero) l = refl
beside_each u e is (suc (suc zero)) l = refl
beside_each u e is (suc (suc (suc zero))) l = refl
beside_each u e is (suc (suc (suc (suc zero)))) l = omega (arith, is, e.each 0, e.each 1, e.each 2, e.each 3, e.each 4, e.each 5, e.each 6, e.each 7)
beside_each u e is (suc (suc (suc (suc (suc zero))))) l = omega (arith, is, e.each 0, e.each 1, e.each 2, e.each 3, e.each 4, e.each 5, e.each 6, e.each 7)
beside_each u e is (suc (suc (suc (suc (suc (suc zero)))))) l = omega (arith, is, e.each 0, e.each 1, e.each 2, e.each 3, e.each 4, e.each 5, e.each 6, e.each 7)
beside_each u e is (suc (suc (suc (suc (suc (suc (suc zero))))))) l = omega (arith, is, e.each 0, e.each 1, e.each 2, e.each 3, e.each 4, e.each 5, e.each 6, e.each 7)
beside_each u e is (suc (suc (suc (suc (suc (suc (suc (suc k)))))))) l = absurd (omega arith)

pub eight_of : (a b c d : ℕ) → length (paired a b c d) ≡ 8
unfolding paired
eight_of a b c d = refl

pub beside : (u : List ℕ) → IsEight u → packed (get_or u 4 0) (get_or u 5 0) (get_or u 6 0) (get_or u 7 0) ≡ 4294967295 - packed (get_or u 0 0) (get_or u 1 0) (get_or u 2 0) (get_or u 3 0)
    → nat_lt (get_or u 3 0) 128 ≡ is_word u
unfolding is_word
beside u e is =
    let p : List ℕ = paired (get_or u 0 0) (get_or u 1 0) (get_or u 2 0) (get_or u 3 0) in
    let lists : u ≡ p = same_number_lists u p (e.eight ∙ sym (eight_of _ _ _ _)) (λ k l. beside_each u e is k (rw (← e.eight) l)) in
    let s : same u p ≡ true = (bytes_decides u p).1 lists in
    rw s refl

not_same : (u p : List ℕ) (t w : Bool) → same u p ≡ t → (u ≡ p → ⊥) → (same u p && w) ≡ false
not_same u p true w s n = absurd (n ((bytes_decides u p).0 s))
not_same u p false w s n = rw s refl

pub apart : (a b : ℕ) → (a ≡ b → ⊥) → nat_eq a b ≡ false
apart a b n = grind (arith, nat_tests)

-- a byte of what a word has to be
at : (u : List ℕ) (k : ℕ) → u ≡ paired (get_or u 0 0) (get_or u 1 0) (get_or u 2 0) (get_or u 3 0) → get_or u k 0 ≡ get_or (paired (get_or u 0 0) (get_or u 1 0) (get_or u 2 0) (get_or u 3 0)) k 0
at u k e = ap (λ v. get_or v k 0) e

pub not_beside : (u : List ℕ) → IsEight u → (packed (get_or u 4 0) (get_or u 5 0) (get_or u 6 0) (get_or u 7 0) ≡ 4294967295 - packed (get_or u 0 0) (get_or u 1 0) (get_or u 2 0) (get_or u 3 0) → ⊥)
    → is_word u ≡ false
unfolding is_word paired
not_beside u e n =
    not_same u (paired (get_or u 0 0) (get_or u 1 0) (get_or u 2 0) (get_or u 3 0)) _ (nat_lt (get_or u 3 0) 128) refl
    (λ s. n (omega (arith, at u 4 s, at u 5 s, at u 6 s, at u 7 s, e.each 0, e.each 1, e.each 2, e.each 3)))
