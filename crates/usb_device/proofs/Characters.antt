-- What a string descriptor holds of whole characters is whole characters.
use Rattle.std.proofs.Common.{◌≡◌, ℕ, nat_lt, Bool, true, false, List, length, take, slice_index, refl, sym, ap, ◌∙◌, if◌then◌else◌, suc, zero, arith}
use Rattle.std.proofs.Math.Seq.{take-length}
use Rattle.usb_device.specs.Strings.{is_first, is_second, Utf16, none, one, two, held_count, held_units}

-- no cut behind the first of two
Whole : ℕ → List ℕ → Type 0
Whole n units = (k : ℕ) → n ≡ suc k → is_first (slice_index units k) ≡ false

cut : (n : ℕ) (units : List ℕ) → Utf16 units → Whole n units → Utf16 (take n units)
unfolding Whole
cut zero units w h = none
cut (suc n) _ none h = none
cut (suc n) _ (one u rest f s w) h = one u (take n rest) f s (cut n rest w (λ k e. h (suc k) (ap suc e)))
cut (suc zero) _ (two u v rest f s w) h = absurd (let x = h 0 refl in cc)
cut (suc (suc n)) _ (two u v rest f s w) h = two u v (take n rest) f s (cut n rest w (λ k e. h (suc (suc k)) (ap (λ x. suc (suc x)) e)))

-- no unit is both
apart : (u : ℕ) → is_first u ≡ true → is_second u ≡ true → ⊥
apart u f s = grind arith

follows : (k : ℕ) (units : List ℕ) → Utf16 units → is_first (slice_index units k) ≡ true → is_second (slice_index units (suc k)) ≡ true
follows k _ none f = absurd (let x : is_first 0 ≡ false = refl in cc)
follows zero _ (one u rest f s w) g = absurd (let x : true ≡ false = sym g ∙ f in cc)
follows (suc k) _ (one u rest f s w) g = follows k rest w g
follows zero _ (two u v rest f s w) g = s
follows (suc zero) _ (two u v rest f s w) g = absurd (apart v g s)
follows (suc (suc k)) _ (two u v rest f s w) g = follows k rest w g

-- behind the first of two stands its second, so the one before the first of two is none
before : (units : List ℕ) → Utf16 units → is_first (slice_index units 125) ≡ true → (f : Bool) → is_first (slice_index units 124) ≡ f → f ≡ false
before units w g false e = refl
before units w g true e = absurd (apart (slice_index units 125) g (follows 124 units w e))

held_by : (long first : Bool) (units : List ℕ) → is_first (slice_index units 125) ≡ first → Utf16 units
    → Utf16 (take (if long then (if first then 125 else 126) else length units) units)
unfolding Whole
held_by false first units e w = rw (take-length units) w
held_by true true units e w = cut 125 units w (λ k q. let x : k ≡ 124 = omega (arith, q) in rw x (before units w e (is_first (slice_index units 124)) refl))
held_by true false units e w = cut 126 units w (λ k q. let x : k ≡ 125 = omega (arith, q) in rw x e)

pub held : (units : List ℕ) → Utf16 units → Utf16 (held_units units)
unfolding held_count
held units w = held_by (nat_lt 126 (length units)) (is_first (slice_index units 125)) units refl w
