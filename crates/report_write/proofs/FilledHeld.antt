-- What fills a place of a new report is held by its bits.
use Rattle.std.proofs.Common.{◌≡◌, ℕ, suc, ◌+◌, ◌*◌, ◌<◌, Bool, true, false, List, length, get_or, arith, refl, sym, ◌∙◌, ap, subst, Some, None, inl, inr}
use Rattle.std.specs.Prelude.{Option, ℤ, pos, ◌+ℤ◌, not, ◌&&◌, slice_get, if◌then◌else◌}
use Rattle.std.specs.Option.{option_map, option_or}
use Rattle.std.proofs.lemmas.Bool.{cases_lt}
use Rattle.std.proofs.lemmas.Option.{slice_get-get_or}
use Rattle.descriptor_parse.specs.declared.field.Field.{Field}
use Rattle.descriptor_parse.specs.Descriptor.{DescriptorValue, ranges_at, usage_list}
use Rattle.host_extract.specs.Found.{value_at}
use Rattle.host_extract.specs.Numbers.{report_bit}
use Rattle.field_values.specs.Places.{IsOutside}
use Rattle.field_values.specs.Held.{is_held, is_within, has_bits}
use Rattle.field_values.specs.Nulls.{null_of}
use Rattle.field_values.specs.Lists.{is_no_control, is_unused}
use Rattle.field_values.proofs.NullLemmas.{null_is_null}
use Rattle.report_write.specs.declared.kept.Kept.{Kept}
use Rattle.report_write.specs.representation.Fits.{FitsRoom}
use Rattle.report_write.specs.Firsts.{first}
use Rattle.report_write.specs.Unused.{unused, id_zero}
use Rattle.report_write.specs.Begins.{empty, cannot_be_empty, IsFilledWith, IsFilledIf, IsEmptyUpTo, IsNeverEmpty}
use Rattle.report_write.specs.Begins.IsEmptyUpTo.{Zeros, Filled}
use Rattle.report_write.proofs.Firsts.{first_passes}
use Rattle.report_write.proofs.UnusedLemmas.{is_zero}
use Rattle.report_write.proofs.ArraysCleared.{all_bits}

-- ---- the value that names no usage is held

pub is_left : (a b : Bool) → (a && b) ≡ true → a ≡ true
is_left true b e = refl
is_left false b e = absurd (cc)

pub is_right : (a b : Bool) → (a && b) ≡ true → b ≡ true
is_right true b e = e
is_right false b e = absurd (cc)

pub null_held : (f : Field) (v : ℤ) → null_of f ≡ Some v → is_held f.min f.size v ≡ true
null_held f v e = is_right (not (is_within f v)) (is_held f.min f.size v) (null_is_null f v e)

-- of values in order the one that is taken is one of them
pub one_of : (p : ℤ → Bool) (a : Bool) (x : ℤ) (o : Option ℤ) (b : Bool) (y : ℤ) (rest : Option ℤ) (v : ℤ) → (a ≡ true → p x ≡ true)
    → ((w : ℤ) → o ≡ Some w → p w ≡ true) → (b ≡ true → p y ≡ true) → ((w : ℤ) → rest ≡ Some w → p w ≡ true)
    → option_or (if a then Some x else None) (option_or o (option_or (if b then Some y else None) rest)) ≡ Some v → p v ≡ true
one_of p true x o b y rest v h1 h2 h3 h4 e = let s : x ≡ v = cc in ap p (sym s) ∙ h1 refl
one_of p false x (Some w) b y rest v h1 h2 h3 h4 e = let s : w ≡ v = cc in ap p (sym s) ∙ h2 w refl
one_of p false x None true y rest v h1 h2 h3 h4 e = let s : y ≡ v = cc in ap p (sym s) ∙ h3 refl
one_of p false x None false y rest v h1 h2 h3 h4 e = h4 v e

pub mapped : (f : ℕ → ℤ) (o : Option ℕ) (v : ℤ) → option_map f o ≡ Some v → (n : ℕ) × (o ≡ Some n) × (f n ≡ v)
mapped f None v e = absurd (cc)
mapped f (Some n) v e = (n, refl, cc)

held_if : (f : Field) (usages : List ℕ) (v : ℤ) → is_unused f usages v ≡ true → is_held f.min f.size v ≡ true
held_if f usages v e = is_left (is_held f.min f.size v) _ e

zero_held_of : (f : Field) (usages : List ℕ) (v : ℤ) → id_zero f usages ≡ Some v → is_held f.min f.size v ≡ true
zero_held_of f usages v e =
    let (n, found, same) = mapped (λ k. f.min +ℤ pos k) (first (is_zero f usages) (length usages)) v e in
    let passes = first_passes (is_zero f usages) (length usages) n found in
    ap (is_held f.min f.size) (sym same)
    ∙ held_if f usages (f.min +ℤ pos n) (is_right (is_no_control (slice_get usages n)) (is_unused f usages (f.min +ℤ pos n)) passes)

pub unused_held : (f : Field) (usages : List ℕ) (v : ℤ) → unused f usages ≡ Some v → is_held f.min f.size v ≡ true
unfolding unused
unused_held f usages v e =
    one_of (is_held f.min f.size) (is_unused f usages (pos 0)) (pos 0) (null_of f) (is_unused f usages (f.min +ℤ pos (length usages))) (f.min +ℤ pos (length usages))
    (id_zero f usages) v (held_if f usages (pos 0)) (null_held f) (held_if f usages (f.min +ℤ pos (length usages))) (zero_held_of f usages) e

-- ---- a field that is filled

pub filled_with : (kept : Kept) (ranges : List (ℕ × ℕ)) (value : ℤ) (old new : List ℕ) → FitsRoom (8 * length old) kept.field ranges → length new ≡ length old
    → ((place : ℕ) → place < kept.field.count → has_bits kept.field old place ≡ true → value_at kept.field new place ≡ value)
    → ((bit : ℕ) → IsOutside kept.field.bit (kept.field.size * kept.field.count) bit → report_bit new bit ≡ report_bit old bit)
    → IsFilledWith kept value old new
filled_with kept ranges value old new fits long there others = record {
  long = long;
  there = λ place within. there place within (all_bits kept.field ranges old old place fits refl within);
  others = others;
}

of_array : (array null_state : Bool) (a b : Option ℤ) → array ≡ true → (if array then a else (if null_state then b else None)) ≡ a
of_array array null_state a b e = rw e refl

of_null : (array null_state : Bool) (a b : Option ℤ) → array ≡ false → null_state ≡ true → (if array then a else (if null_state then b else None)) ≡ b
of_null array null_state a b e n = rw (e, n) refl

filled_if : (kept : Kept) (given : Option ℤ) (value : ℤ) (old new : List ℕ) → given ≡ Some value → IsFilledWith kept value old new → IsFilledIf kept given old new
filled_if kept given value old new e w = subst (λ (o : Option ℤ). IsFilledIf kept o old new) (sym e) w

pub filled_array : (d : DescriptorValue) (kept : Kept) (value : ℤ) (old new : List ℕ) → kept.field.array ≡ true
    → unused kept.field (usage_list (ranges_at d kept.number)) ≡ Some value → IsFilledWith kept value old new → IsFilledIf kept (empty d kept) old new
filled_array d kept value old new a u w =
    filled_if kept (empty d kept) value old new
    (of_array kept.field.array kept.null_state (unused kept.field (usage_list (ranges_at d kept.number))) (null_of kept.field) a ∙ u) w

pub filled_null : (d : DescriptorValue) (kept : Kept) (value : ℤ) (old new : List ℕ) → kept.field.array ≡ false → kept.null_state ≡ true
    → null_of kept.field ≡ Some value → IsFilledWith kept value old new → IsFilledIf kept (empty d kept) old new
filled_null d kept value old new a s n w =
    filled_if kept (empty d kept) value old new
    (of_null kept.field.array kept.null_state (unused kept.field (usage_list (ranges_at d kept.number))) (null_of kept.field) a s ∙ n) w

-- ---- the fields before one

same_kept : (a b : Kept) → Some a ≡ Some b → a ≡ b
same_kept a b e = cc

-- those that were filled can be empty
pub were_filled : (d : DescriptorValue) (kept : List Kept) (zeros : List ℕ) (number : ℕ) (bytes : List ℕ) → IsEmptyUpTo d kept zeros number bytes
    → (before : ℕ) (other : Kept) → before < number → slice_get kept before ≡ Some other → cannot_be_empty d other ≡ false
were_filled d kept zeros _ _ Zeros before other l e = absurd (omega arith)
were_filled d kept zeros _ _ (Filled number field old new rest here can filled) before other l e = elim (cases_lt before number) [
  | inl low ↦ were_filled d kept zeros number old rest before other low e
  | inr high ↦ (let same : before ≡ number = omega arith in
      let one : field ≡ other = same_kept field other (sym here ∙ rw same at e) in
      rw one at can)
]

pub one_filled : (d : DescriptorValue) (kept : List Kept) (zeros : List ℕ) (number : ℕ) (field : Kept) (old new : List ℕ) → IsEmptyUpTo d kept zeros number old
    → number < length kept → cannot_be_empty d (get_or kept number field) ≡ false
    → IsFilledIf (get_or kept number field) (empty d (get_or kept number field)) old new → IsEmptyUpTo d kept zeros (number + 1) new
one_filled d kept zeros number field old new before within can filled =
    let next : number + 1 ≡ suc number = omega arith in
    rw next (Filled number (get_or kept number field) old new before (slice_get-get_or kept number field within) can filled)

pub none_filled : (d : DescriptorValue) (kept : List Kept) (zeros : List ℕ) → IsEmptyUpTo d kept zeros 0 zeros
none_filled d kept zeros = Zeros

pub never_empty : (d : DescriptorValue) (kept : List Kept) (zeros : List ℕ) (place : ℕ) (field : Kept) (bytes : List ℕ) → IsEmptyUpTo d kept zeros place bytes
    → place < length kept → cannot_be_empty d (get_or kept place field) ≡ true → IsNeverEmpty d kept (get_or kept place field).number
never_empty d kept zeros place field bytes before within cannot = record {
  place = place;
  array = get_or kept place field;
  here = slice_get-get_or kept place field within;
  its = refl;
  cannot = cannot;
  first = were_filled d kept zeros place bytes before;
}
