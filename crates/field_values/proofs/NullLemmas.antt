-- Values outside the logical extents that the bits hold.
use Rattle.std.proofs.Common.{◌≡◌, ℕ, ◌^◌, Bool, true, false, arith, refl, sym, ◌∙◌, ap, Some, None, inl, inr}
use Rattle.std.specs.Prelude.{◌⊎◌, ℤ, pos, ◌+ℤ◌, ◌-ℤ◌, ◌<ℤ◌, ◌≤ℤ◌, int_lt, not, ◌&&◌, if◌then◌else◌}
use Rattle.std.proofs.lemmas.Int.{ints}
use Rattle.std.proofs.lemmas.Nat.{pow_pos}
use Rattle.std.proofs.lemmas.Bool.{cases_Bool, not-true, and_parts}
use Rattle.descriptor_parse.specs.declared.field.Field.{Field}
use Rattle.field_values.specs.Held.{is_held, is_within}
use Rattle.field_values.specs.Nulls.{is_null, null_of}
use Rattle.field_values.specs.Values.{where_is}
use Rattle.field_values.specs.declared.value.Within.TheVariants.{Range, Null, Out}

-- ---- tests of signed numbers

below : (a b : ℤ) → int_lt a b ≡ true → a <ℤ b
below a b e = grind (arith, ints)

not_below : (a b : ℤ) → int_lt a b ≡ false → b ≤ℤ a
not_below a b e = grind (arith, ints)

is_below : (a b : ℤ) → a <ℤ b → int_lt a b ≡ true
is_below a b l = grind (arith, ints)

is_not_below : (a b : ℤ) → b ≤ℤ a → int_lt a b ≡ false
is_not_below a b l = grind (arith, ints)

-- ---- the bits hold what is between two values that they hold

unsigned_between : (n : ℤ) (low high v : ℤ) → (not (int_lt low (pos 0)) && int_lt low n) ≡ true → (not (int_lt high (pos 0)) && int_lt high n) ≡ true
    → low ≤ℤ v → v ≤ℤ high → (not (int_lt v (pos 0)) && int_lt v n) ≡ true
unsigned_between n low high v l h a b =
    let p : pos 0 ≤ℤ low = not_below low (pos 0) (not-true (int_lt low (pos 0)) (and_parts (not (int_lt low (pos 0))) (int_lt low n) l).0) in
    let q : high <ℤ n = below high n (and_parts (not (int_lt high (pos 0))) (int_lt high n) h).1 in
    let x : int_lt v (pos 0) ≡ false = is_not_below v (pos 0) (omega (arith, ints)) in
    let y : int_lt v n ≡ true = is_below v n (omega (arith, ints)) in
    rw (x, y) refl

signed_between : (n : ℤ) (low high v : ℤ) → (not (int_lt (low +ℤ low) (pos 0 -ℤ n)) && int_lt (low +ℤ low) n) ≡ true
    → (not (int_lt (high +ℤ high) (pos 0 -ℤ n)) && int_lt (high +ℤ high) n) ≡ true
    → low ≤ℤ v → v ≤ℤ high → (not (int_lt (v +ℤ v) (pos 0 -ℤ n)) && int_lt (v +ℤ v) n) ≡ true
signed_between n low high v l h a b =
    let p : (pos 0 -ℤ n) ≤ℤ (low +ℤ low) =
    not_below (low +ℤ low) (pos 0 -ℤ n) (not-true (int_lt (low +ℤ low) (pos 0 -ℤ n)) (and_parts (not (int_lt (low +ℤ low) (pos 0 -ℤ n))) (int_lt (low +ℤ low) n) l).0) in
    let q : (high +ℤ high) <ℤ n = below (high +ℤ high) n (and_parts (not (int_lt (high +ℤ high) (pos 0 -ℤ n))) (int_lt (high +ℤ high) n) h).1 in
    let x : int_lt (v +ℤ v) (pos 0 -ℤ n) ≡ false = is_not_below (v +ℤ v) (pos 0 -ℤ n) (omega (arith, ints)) in
    let y : int_lt (v +ℤ v) n ≡ true = is_below (v +ℤ v) n (omega (arith, ints)) in
    rw (x, y) refl

pick_held : (b : Bool) (x y : Bool) → b ≡ true → (if b then x else y) ≡ x
pick_held b x y e = rw e refl

pick_unsigned : (b : Bool) (x y : Bool) → b ≡ false → (if b then x else y) ≡ y
pick_unsigned b x y e = rw e refl

pub held_between : (minimum : ℤ) (size : ℕ) (low high v : ℤ) → is_held minimum size low ≡ true → is_held minimum size high ≡ true
    → low ≤ℤ v → v ≤ℤ high → is_held minimum size v ≡ true
held_between minimum size low high v l h a b = elim (cases_Bool (int_lt minimum (pos 0))) [
  | inl e ↦ pick_held _ _ _ e ∙ signed_between (pos (2 ^ size)) low high v (sym (pick_held _ _ _ e) ∙ l) (sym (pick_held _ _ _ e) ∙ h) a b
  | inr e ↦ pick_unsigned _ _ _ e ∙ unsigned_between (pos (2 ^ size)) low high v (sym (pick_unsigned _ _ _ e) ∙ l) (sym (pick_unsigned _ _ _ e) ∙ h) a b
]

pub zero_held : (minimum : ℤ) (size : ℕ) → is_held minimum size (pos 0) ≡ true
zero_held minimum size =
    let some = pow_pos size in
    let x : int_lt (pos 0) (pos 0 -ℤ pos (2 ^ size)) ≡ false = is_not_below (pos 0) (pos 0 -ℤ pos (2 ^ size)) (omega (arith, ints)) in
    let y : int_lt (pos 0) (pos (2 ^ size)) ≡ true = is_below (pos 0) (pos (2 ^ size)) (omega (arith, ints)) in
    elim (cases_Bool (int_lt minimum (pos 0))) [
      | inl e ↦ pick_held _ _ _ e ∙ rw (x, y) refl
      | inr e ↦ pick_unsigned _ _ _ e ∙ rw y refl
    ]

-- ---- the one that is written

pick : (a b c : Bool) (x y z : ℤ) → a ≡ false → b ≡ false → c ≡ true → Some z ≡ (if a then Some x else (if b then Some y else (if c then Some z else None)))
pick a b c x y z d e f = rw (d, e, f) refl

pick_none : (a b c : Bool) (x y z : ℤ) → a ≡ false → b ≡ false → c ≡ false → None ≡ (if a then Some x else (if b then Some y else (if c then Some z else None)))
pick_none a b c x y z d e f = rw (d, e, f) refl

pub third_null : (f : Field) (under : ℤ) → under ≡ f.min -ℤ pos 1
    → is_null f (pos 0) ≡ false → is_null f (f.max +ℤ pos 1) ≡ false → is_null f (f.min -ℤ pos 1) ≡ true → Some under ≡ null_of f
third_null f under e a b c =
    ap Some e ∙ pick (is_null f (pos 0)) (is_null f (f.max +ℤ pos 1)) (is_null f (f.min -ℤ pos 1)) (pos 0) (f.max +ℤ pos 1) (f.min -ℤ pos 1) a b c

pub no_null : (f : Field)
    → is_null f (pos 0) ≡ false → is_null f (f.max +ℤ pos 1) ≡ false → is_null f (f.min -ℤ pos 1) ≡ false → None ≡ null_of f
no_null f a b c =
    pick_none (is_null f (pos 0)) (is_null f (f.max +ℤ pos 1)) (is_null f (f.min -ℤ pos 1)) (pos 0) (f.max +ℤ pos 1) (f.min -ℤ pos 1) a b c

-- ---- where none of the three says it, none does

is_outside : (f : Field) (v : ℤ) → is_within f v ≡ false → (v <ℤ f.min) ⊎ (f.max <ℤ v)
is_outside f v e = elim (cases_Bool (int_lt v f.min)) [
  | inl low ↦ inl (below v f.min low)
  | inr a ↦ elim (cases_Bool (int_lt f.max v)) [
    | inl high ↦ inr (below f.max v high)
    | inr b ↦ absurd (let t : is_within f v ≡ true = rw (a, b) refl in cc)
  ]
]

above_is_outside : (f : Field) (v : ℤ) → f.max <ℤ v → is_within f v ≡ false
above_is_outside f v l = elim (cases_Bool (int_lt v f.min)) [
  | inl a ↦ rw a refl
  | inr a ↦ rw (a, is_below f.max v l) refl
]

under_is_outside : (f : Field) (v : ℤ) → v <ℤ f.min → is_within f v ≡ false
under_is_outside f v l = rw (is_below v f.min l) refl

pub null_from : (within held : Bool) → within ≡ false → held ≡ true → (not within && held) ≡ true
null_from within held a b = rw (a, b) refl

-- a value that is held is within if it is no null
is_no_null : (within held : Bool) → (not within && held) ≡ false → held ≡ true → within ≡ true
is_no_null true held a b = refl
is_no_null false held a b = absurd (cc)

true≢false : {P : Type 0} (b : Bool) → b ≡ true → b ≡ false → P
true≢false b x y = absurd (cc)

is_within_true : (f : Field) (v : ℤ) → is_within f v ≡ true → (f.min ≤ℤ v) × (v ≤ℤ f.max)
is_within_true f v e = let (a, b) = and_parts (not (int_lt v f.min)) (not (int_lt f.max v)) e in
    (not_below v f.min (not-true (int_lt v f.min) a), not_below f.max v (not-true (int_lt f.max v) b))

pub never_null : (f : Field)
    → is_null f (pos 0) ≡ false → is_null f (f.max +ℤ pos 1) ≡ false → is_null f (f.min -ℤ pos 1) ≡ false → (v : ℤ) → is_null f v ≡ false
never_null f a b c v = elim (cases_Bool (is_null f v)) [
  | inr other ↦ other
  | inl said ↦ (
      let (out, held) = and_parts (not (is_within f v)) (is_held f.min f.size v) said in
      let zero = zero_held f.min f.size in
      let above = f.max +ℤ pos 1 in
      let under = f.min -ℤ pos 1 in
      let (from, to) = is_within_true f (pos 0) (is_no_null (is_within f (pos 0)) (is_held f.min f.size (pos 0)) a zero) in
      elim (is_outside f v (not-true (is_within f v) out)) [
        | inr high ↦ (let m = held_between f.min f.size (pos 0) v above zero held (omega (arith, ints)) (omega (arith, ints)) in
            true≢false (is_null f above) (null_from (is_within f above) (is_held f.min f.size above) (above_is_outside f above (omega (arith, ints))) m) b)
        | inl low ↦ (let m = held_between f.min f.size v (pos 0) under held zero (omega (arith, ints)) (omega (arith, ints)) in
            true≢false (is_null f under) (null_from (is_within f under) (is_held f.min f.size under) (under_is_outside f under (omega (arith, ints))) m) c)
      ])
]

-- ---- what is read of what was written

within_range : (within null_state array : Bool) → within ≡ true → (if within then Range else (if null_state && not array then Null else Out)) ≡ Range
within_range within null_state array e = rw e refl

pub value_in_range : (f : Field) (null_state : Bool) (v : ℤ) → is_within f v ≡ true → where_is f null_state v ≡ Range
value_in_range f null_state v e = within_range (is_within f v) null_state f.array e

outside_null : (within array : Bool) → within ≡ false → array ≡ false → (if within then Range else (if true && not array then Null else Out)) ≡ Null
outside_null within array e a = rw (e, a) refl

one_of : (a b c : Bool) (p : ℤ → Bool) (x y z v : ℤ) → p x ≡ a → p y ≡ b → p z ≡ c
    → (if a then Some x else (if b then Some y else (if c then Some z else None))) ≡ Some v → p v ≡ true
one_of true b c p x y z v d e f s = let t : x ≡ v = cc in ap p (sym t) ∙ d
one_of false true c p x y z v d e f s = let t : y ≡ v = cc in ap p (sym t) ∙ e
one_of false false true p x y z v d e f s = let t : z ≡ v = cc in ap p (sym t) ∙ f
one_of false false false p x y z v d e f s = absurd (cc)

pub null_is_null : (f : Field) (v : ℤ) → null_of f ≡ Some v → is_null f v ≡ true
null_is_null f v e = one_of (is_null f (pos 0)) (is_null f (f.max +ℤ pos 1)) (is_null f (f.min -ℤ pos 1)) (is_null f) (pos 0) (f.max +ℤ pos 1) (f.min -ℤ pos 1) v refl refl refl e

pub read_as_null : (f : Field) (v : ℤ) → f.array ≡ false → null_of f ≡ Some v → where_is f true v ≡ Null
read_as_null f v a e =
    let (out, held) = and_parts (not (is_within f v)) (is_held f.min f.size v) (null_is_null f v e) in
    outside_null (is_within f v) f.array (not-true (is_within f v) out) a
