-- Fractions in their lowest terms, and the sizes of signed numbers.
use Rattle.std.proofs.Common.{◌≡◌, ℕ, zero, suc, ◌*◌, ◌/◌, ◌^◌, ◌<◌, ◌≤◌, Bool, true, false, arith, refl, sym, ◌∙◌, ap, subst}
use Rattle.std.specs.Prelude.{ℤ, pos, negsuc, ◌+ℤ◌, ◌-ℤ◌, ◌*ℤ◌, neg_ℤ, ◌≤ℤ◌, unsigned_abs, int_lt, if◌then◌else◌}
use Rattle.std.specs.Int.{IsGcd, ◌∣◌}
use Rattle.std.proofs.lemmas.Int.{ints}
use Rattle.std.proofs.Math.Nat.{eq-zero_of_zero-dvd, one-dvd, mul-dvd-mul_left, dvd_of_mul-dvd-mul_left, mul-div_cancel', mul_assoc, mul_comm, mul-one}
use Rattle.std.proofs.Math.IntN.{pos-*ℤ-pos, negsuc-*ℤ-pos}

-- ---- sizes

pub from_abs : (z : ℤ) (n : ℕ) → unsigned_abs z ≤ n → (neg_ℤ (pos n) ≤ℤ z) × (z ≤ℤ pos n)
from_abs (pos k) n l = (omega (arith, ints), omega (arith, ints))
from_abs (negsuc k) n l = (omega (arith, ints), omega (arith, ints))

pub to_abs : (z : ℤ) (n : ℕ) → neg_ℤ (pos n) ≤ℤ z → z ≤ℤ pos n → unsigned_abs z ≤ n
to_abs (pos k) n a b = omega (arith, ints)
to_abs (negsuc k) n a b = omega (arith, ints)

of_size : (z : ℤ) → pos 0 ≤ℤ z → pos (unsigned_abs z) ≡ z
of_size (pos k) l = refl
of_size (negsuc k) l = absurd (omega (arith, ints))

-- a number that is not negative is its size
pub natural_is : (a b : ℤ) → int_lt b a ≡ false → pos (unsigned_abs (b -ℤ a)) ≡ b -ℤ a
natural_is a b e = of_size (b -ℤ a) (let l : a ≤ℤ b = grind (arith, ints) in omega (arith, ints))

-- ---- lowest terms

pub divisor_some : (a b g : ℕ) → 0 < b → IsGcd a b g → 0 < g
divisor_some a b zero some d = absurd (let z : b ≡ 0 = eq-zero_of_zero-dvd d.1 in omega arith)
divisor_some a b (suc g) some d = omega arith

pub is_lowest : (a b g : ℕ) → 0 < b → IsGcd a b g → IsGcd (a / g) (b / g) 1
is_lowest a b g some e =
    let (da, db, most) = e in
    let positive = divisor_some a b g some e in
    let ea : g * (a / g) ≡ a = mul-div_cancel' g da in
    let eb : g * (b / g) ≡ b = mul-div_cancel' g db in (
      one-dvd (a / g),
      one-dvd (b / g),
      λ d x y.
          let u : (g * d) ∣ a = subst (λ (n : ℕ). (g * d) ∣ n) ea (mul-dvd-mul_left d g x) in
          let v : (g * d) ∣ b = subst (λ (n : ℕ). (g * d) ∣ n) eb (mul-dvd-mul_left d g y) in
          let w : (g * d) ∣ (g * 1) = subst (λ (n : ℕ). (g * d) ∣ n) (sym (mul-one g)) (most (g * d) u v) in
          dvd_of_mul-dvd-mul_left d positive w,
    )

same_product : (a b g : ℕ) → IsGcd a b g → a / g * b ≡ a * (b / g)
same_product a b g (da, db, most) =
    let ea : g * (a / g) ≡ a = mul-div_cancel' g da in
    let eb : g * (b / g) ≡ b = mul-div_cancel' g db in
    ap (λ n. a / g * n) (sym eb) ∙ sym (mul_assoc (a / g) g (b / g)) ∙ ap (λ n. n * (b / g)) (mul_comm (a / g) g ∙ ea)

neg_product : (m b : ℕ) → neg_ℤ (pos m) *ℤ pos b ≡ neg_ℤ (pos (m * b))
neg_product zero b = pos-*ℤ-pos 0 b ∙ (let z : 0 * b ≡ 0 = omega arith in rw z refl)
neg_product (suc m) b = negsuc-*ℤ-pos m b

pick_negative : (b : Bool) (x y : ℤ) → b ≡ true → (if b then x else y) ≡ x
pick_negative b x y e = rw e refl

pick_natural : (b : Bool) (x y : ℤ) → b ≡ false → (if b then x else y) ≡ y
pick_natural b x y e = rw e refl

-- a size with the sign of a number
abbrev pub with_sign_of : ℤ → ℕ → ℤ
with_sign_of z n = if int_lt z (pos 0) then neg_ℤ (pos n) else pos n

of_natural : (k n : ℕ) → with_sign_of (pos k) n ≡ pos n
of_natural k n = pick_natural (int_lt (pos k) (pos 0)) (neg_ℤ (pos n)) (pos n) (grind (arith, ints))

of_negative : (k n : ℕ) → with_sign_of (negsuc k) n ≡ neg_ℤ (pos n)
of_negative k n = pick_negative (int_lt (negsuc k) (pos 0)) (neg_ℤ (pos n)) (pos n) (grind (arith, ints))

same_fraction : (z : ℤ) (b g : ℕ) → IsGcd (unsigned_abs z) b g → with_sign_of z (unsigned_abs z / g) *ℤ pos b ≡ z *ℤ pos (b / g)
same_fraction (pos n) b g d =
    ap (λ w. w *ℤ pos b) (of_natural n (n / g)) ∙ pos-*ℤ-pos (n / g) b ∙ ap pos (same_product n b g d) ∙ sym (pos-*ℤ-pos n (b / g))
same_fraction (negsuc n) b g d =
    ap (λ w. w *ℤ pos b) (of_negative n (suc n / g)) ∙ neg_product (suc n / g) b ∙ ap (λ k. neg_ℤ (pos k)) (same_product (suc n) b g d)
    ∙ sym (negsuc-*ℤ-pos n (b / g))

neg_size : (n : ℕ) → unsigned_abs (neg_ℤ (pos n)) ≡ n
neg_size zero = refl
neg_size (suc n) = refl

same_size : (z : ℤ) (n : ℕ) → unsigned_abs (with_sign_of z n) ≡ n
same_size (pos k) n = ap unsigned_abs (of_natural k n)
same_size (negsuc k) n = ap unsigned_abs (of_negative k n) ∙ neg_size n

-- what becomes of a fraction
pub reduced_same : (z n : ℤ) (b g : ℕ) (d : ℤ) → IsGcd (unsigned_abs z) b g → n ≡ with_sign_of z (unsigned_abs z / g) → d ≡ pos (b / g) → n *ℤ pos b ≡ z *ℤ d
reduced_same z n b g d h e f = ap (λ w. w *ℤ pos b) e ∙ same_fraction z b g h ∙ ap (λ w. z *ℤ w) (sym f)

pub reduced_lowest : (z n : ℤ) (b g : ℕ) (d : ℤ) → 0 < b → IsGcd (unsigned_abs z) b g → n ≡ with_sign_of z (unsigned_abs z / g) → d ≡ pos (b / g)
    → IsGcd (unsigned_abs n) (unsigned_abs d) 1
reduced_lowest z n b g d some h e f =
    let above : unsigned_abs n ≡ unsigned_abs z / g = ap unsigned_abs e ∙ same_size z (unsigned_abs z / g) in
    let below : unsigned_abs d ≡ b / g = ap unsigned_abs f in
    rw (above, below) (is_lowest (unsigned_abs z) b g some h)

-- a sum of two products
pub sum_few : (a b : ℤ) → unsigned_abs a ≤ 2 ^ 97 → unsigned_abs b ≤ 2 ^ 97 → unsigned_abs (a +ℤ b) ≤ 2 ^ 98
sum_few a b l m =
    let (p, q) = from_abs a (2 ^ 97) l in
    let (r, s) = from_abs b (2 ^ 97) m in
    to_abs (a +ℤ b) (2 ^ 98) (omega (arith, ints)) (omega (arith, ints))

positive_factor : (g n : ℕ) → 0 < g * n → 0 < n
positive_factor g zero l = absurd (let z : g * 0 ≡ 0 = omega arith in omega arith)
positive_factor g (suc n) l = omega arith

pub some_below : (a b g : ℕ) → 0 < b → IsGcd a b g → 0 < b / g
some_below a b g some e = let eb : g * (b / g) ≡ b = mul-div_cancel' g e.1 in positive_factor g (b / g) (rw (sym eb) at some)
