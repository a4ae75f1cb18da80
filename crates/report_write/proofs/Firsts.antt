-- The first number that passes a test.
use Rattle.std.proofs.Common.{◌≡◌, ℕ, zero, suc, ◌+◌, ◌-◌, ◌<◌, ◌≤◌, Bool, true, false, arith, refl, sym, ◌∙◌, ap, Some, None, inl, inr}
use Rattle.std.specs.Prelude.{Option, ◌⊎◌, if◌then◌else◌, ◌&&◌}
use Rattle.std.proofs.lemmas.Bool.{cases_lt}
use Rattle.std.specs.Option.{option_or}
use Rattle.report_write.specs.Firsts.{first}

pub no_first : (test : ℕ → Bool) → first test 0 ≡ None
unfolding first
no_first test = refl

step : (test : ℕ → Bool) (n : ℕ) → first test n ≡ None → test n ≡ false → first test (suc n) ≡ None
unfolding first
step test n e f = rw (e, f) refl

pub still_none : (test : ℕ → Bool) (n : ℕ) → first test n ≡ None → test n ≡ false → first test (n + 1) ≡ None
still_none test n e f = let s : n + 1 ≡ suc n = omega arith in rw s (step test n e f)

-- none among more numbers, of which none passes
none_by : (test : ℕ → Bool) (a n : ℕ) → first test a ≡ None → ((k : ℕ) → a ≤ k → k < a + n → test k ≡ false) → first test (a + n) ≡ None
none_by test a zero e h = let s : a + 0 ≡ a = omega arith in rw s e
none_by test a (suc n) e h =
    let s : a + suc n ≡ suc (a + n) = omega arith in
    rw s (step test (a + n) (none_by test a n e (λ k l m. h k l (omega arith))) (h (a + n) (omega arith) (omega arith)))

pub none_more : (test : ℕ → Bool) (a b : ℕ) → first test a ≡ None → a ≤ b → ((k : ℕ) → a ≤ k → k < b → test k ≡ false) → first test b ≡ None
none_more test a b e l h =
    let s : a + (b - a) ≡ b = omega arith in
    rw (← s) (none_by test a (b - a) e (λ k m n. h k m (omega arith)))

here : (test : ℕ → Bool) (n : ℕ) → first test n ≡ None → test n ≡ true → first test (suc n) ≡ Some n
unfolding first
here test n e t = rw (e, t) refl

found_before : (test : ℕ → Bool) (m n : ℕ) → first test m ≡ Some n → first test (suc m) ≡ Some n
unfolding first
found_before test m n e = rw e refl

found_by : (test : ℕ → Bool) (n more : ℕ) → first test n ≡ None → test n ≡ true → first test (suc (n + more)) ≡ Some n
found_by test n zero e t = let s : n + 0 ≡ n = omega arith in rw s (here test n e t)
found_by test n (suc more) e t = let s : n + suc more ≡ suc (n + more) = omega arith in rw s (found_before test (suc (n + more)) n (found_by test n more e t))

-- the first that passes
pub first_is : (test : ℕ → Bool) (n m : ℕ) → first test n ≡ None → test n ≡ true → n < m → first test m ≡ Some n
first_is test n m e t l = let s : suc (n + (m - suc n)) ≡ m = omega arith in rw (← s) (found_by test n (m - suc n) e t)

none_either : (a b : Option ℕ) → option_or a b ≡ None → (a ≡ None) × (b ≡ None)
none_either None b e = (refl, e)
none_either (Some x) b e = absurd (cc)

not_here : (b : Bool) (n : ℕ) → (if b then Some n else None) ≡ None → b ≡ false
not_here true n e = absurd (cc)
not_here false n e = refl

split_none : (test : ℕ → Bool) (m : ℕ) → first test (suc m) ≡ None → (first test m ≡ None) × (test m ≡ false)
unfolding first
split_none test m e =
    let (a, b) = none_either (first test m) (if test m then Some m else None) e in
    (a, not_here (test m) m b)

-- where there is no first, none passes
pub none_passes : (test : ℕ → Bool) (m k : ℕ) → first test m ≡ None → k < m → test k ≡ false
none_passes test zero k e l = absurd (omega arith)
none_passes test (suc m) k e l =
    let (a, b) = split_none test m e in
    elim (cases_lt k m) [
      | inl low ↦ none_passes test m k a low
      | inr high ↦ (let s : k ≡ m = omega arith in rw s b)
    ]

passed_here : (b : Bool) (m n : ℕ) → (if b then Some m else None) ≡ Some n → (b ≡ true) × (m ≡ n)
passed_here true m n e = (refl, cc)
passed_here false m n e = absurd (cc)

pub either_is : (a b : Option ℕ) (n : ℕ) → option_or a b ≡ Some n → (a ≡ Some n) ⊎ (b ≡ Some n)
either_is None b n e = inr e
either_is (Some x) b n e = inl e

split_some : (test : ℕ → Bool) (m n : ℕ) → first test (suc m) ≡ Some n → (first test m ≡ Some n) ⊎ ((if test m then Some m else None) ≡ Some n)
unfolding first
split_some test m n e = either_is (first test m) (if test m then Some m else None) n e

none_first : (test : ℕ → Bool) (n : ℕ) → first test 0 ≡ Some n → ⊥
unfolding first
none_first test n e = absurd (cc)

-- the first passes
pub first_passes : (test : ℕ → Bool) (m n : ℕ) → first test m ≡ Some n → test n ≡ true
first_passes test zero n e = absurd (none_first test n e)
first_passes test (suc m) n e = elim (split_some test m n e) [
  | inl low ↦ first_passes test m n low
  | inr at ↦ (let (t, s) = passed_here (test m) m n at in ap test (sym s) ∙ t)
]

-- ---- two tests

pub not_left : (a b : Bool) → a ≡ false → (a && b) ≡ false
not_left a b e = rw e refl

pub not_right : (a b : Bool) → b ≡ false → (a && b) ≡ false
not_right true b e = e
not_right false b e = refl

pub and_both : (a b : Bool) → a ≡ true → b ≡ true → (a && b) ≡ true
and_both a b x y = rw (x, y) refl

pub not_both : {P : Type 0} (b : Bool) → b ≡ true → b ≡ false → P
not_both b x y = absurd (cc)
