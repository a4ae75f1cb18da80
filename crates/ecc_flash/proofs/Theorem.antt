use Rattle.std.proofs.Common.{◌≡◌, ℕ, ◌+◌, ◌-◌, ◌%◌, ◌<◌, List, get_or, arith, subst, inl, inr, w8}
use Rattle.std.specs.Int.{bit_at}
use Rattle.std.proofs.lemmas.Nat.Bits.{bit_at_xor, bit_at-lt, bit_at_not, same_from_bits_below}
use Rattle.std.proofs.lemmas.Bool.{cases_lt}
use Rattle.std.proofs.lemmas.Bool.Decides.{eqb_tells}
use Rattle.std.proofs.lemmas.Grind.{same_number_lists}
use Rattle.ecc_flash.specs.Units.{IsPair, IsCheckOf, Lacks}

-- the bits of a byte and its complement
complement_bits : (p q : ℕ) → p + q ≡ 255 → (i : ℕ) → i < 8 → bit_at p i + bit_at q i ≡ 1
complement_bits p q e i l =
    let is : q ≡ 255 - p = omega arith in
    rw is (omega (arith, bit_at_not w8 p i (omega arith) l, bit_at-lt p i))

-- the bits of a word are those that were meant, but for one
pub same_bit : (a x : List ℕ) → IsPair a → IsPair x → (n : Lacks a x) → (k i : ℕ) → k < 4 → i < 8 → (k ≡ n.byte % 4 → i ≡ n.bit → ⊥) → bit_at (get_or x k 0) i ≡ bit_at (get_or a k 0) i
same_bit a x pa px n k i l m apart =
    let c = complement_bits _ _ (pa.pairs k l) i m in
    let d = complement_bits _ _ (px.pairs k l) i m in
    let low = n.others k i (λ e. apart (omega arith)) in
    let high = n.others (k + 4) i (λ e. apart (omega arith)) in
    omega arith

-- a bit of a word and that of the byte before it are those of the check
check_bit : (a b : List ℕ) → IsCheckOf a b → (k i : ℕ) → k < 4 → bit_at (get_or b k 0) i ≡ (bit_at (get_or a k 0) i + bit_at (get_or a ((k + 3) % 4) 0) i) % 2
check_bit a b c k i l = rw (c k l) (bit_at_xor (get_or a k 0) (get_or a ((k + 3) % 4) 0) i)

-- a bit between two others: all that is known of it, of the byte before and of the byte after
step : (p q a b x y : ℕ) → p < 2 → q < 2 → a < 2 → b < 2 → x < 2 → y < 2 → p ≡ (a + b) % 2 → q ≡ (x + y) % 2 → q ≡ p → y ≡ b → x ≡ a
step p q a b x y lp lq la lb lx ly ep eq e f = omega arith

-- the bit before the next one
after : (k : ℕ) → k < 4 → ((k + 1) % 4 + 3) % 4 ≡ k
after k l = omega arith

-- no bit differs: the check shows a differing bit in two places, of which one at most was turned
pub theorem_bit : (a b x y : List ℕ) → IsPair a → IsPair b → IsCheckOf a b → IsPair x → IsPair y → IsCheckOf x y → Lacks a x → Lacks b y → (k i : ℕ) → k < 4 → i < 8 → bit_at (get_or x k 0) i ≡ bit_at (get_or a k 0) i
theorem_bit a b x y pa pb ca px py cx na nb k i l m =
    elim (eqb_tells k (na.byte % 4)) [
      | inr apart ↦ same_bit a x pa px na k i l m (λ e _. apart.1 e)
      | inl there ↦ elim (eqb_tells k (nb.byte % 4)) [
        | inr apart ↦ (let s = same_bit b y pb py nb k i l m (λ e _. apart.1 e) in
            let before = same_bit a x pa px na ((k + 3) % 4) i (omega arith) m (λ e _. omega (arith, there.1)) in
            step _ _ _ _ _ _ (bit_at-lt _ i) (bit_at-lt _ i) (bit_at-lt _ i) (bit_at-lt _ i) (bit_at-lt _ i) (bit_at-lt _ i) (check_bit a b ca k i l) (check_bit x y cx k i l) s before)
        | inl also ↦ (let next : (k + 1) % 4 < 4 = omega arith in
            let s = same_bit b y pb py nb ((k + 1) % 4) i next m (λ e _. omega (arith, also.1)) in
            let beside = same_bit a x pa px na ((k + 1) % 4) i next m (λ e _. omega (arith, there.1)) in
            let f = check_bit a b ca ((k + 1) % 4) i next in
            let g = check_bit x y cx ((k + 1) % 4) i next in
            let f' = rw (after k l) at f in
            let g' = rw (after k l) at g in
            omega (arith, f', g', s, beside, bit_at-lt (get_or a k 0) i, bit_at-lt (get_or x k 0) i))
      ]
    ]

same_byte : (a b x y : List ℕ) → IsPair a → IsPair b → IsCheckOf a b → IsPair x → IsPair y → IsCheckOf x y → Lacks a x → Lacks b y → (k : ℕ) → k < 4 → get_or x k 0 ≡ get_or a k 0
same_byte a b x y pa pb ca px py cx na nb k l =
    same_from_bits_below 8 _ _ (px.eight.each k) (pa.eight.each k) (λ i m. theorem_bit a b x y pa pb ca px py cx na nb k i l m)

-- so it is the word that was meant
pub one_word : (a b x y : List ℕ) → IsPair a → IsPair b → IsCheckOf a b → IsPair x → IsPair y → IsCheckOf x y → Lacks a x → Lacks b y → x ≡ a
one_word a b x y pa pb ca px py cx na nb =
    let low = same_byte a b x y pa pb ca px py cx na nb in
    same_number_lists x a (omega (arith, pa.eight.eight, px.eight.eight)) (λ k l.
    elim (cases_lt k 4) [
      | inl below ↦ low k below
      | inr above ↦ (let m : k - 4 < 4 = omega (arith, px.eight.eight) in
          let e : k - 4 + 4 ≡ k = omega arith in
          let P : ℕ → Type 0 = λ j. get_or x j 0 ≡ get_or a j 0 in
          subst P e (omega (arith, low (k - 4) m, pa.pairs (k - 4) m, px.pairs (k - 4) m)))
    ])
