-- Why a usage is not put into an Array, or not taken out, by the tests that are made.
use Rattle.std.proofs.Common.{◌≡◌, ℕ, Bool, true, false, List, refl, sym, ◌∙◌, ap, Some, None}
use Rattle.std.specs.Prelude.{Option, ℤ, pos, ◌+ℤ◌, int_lt, not, ◌&&◌, if◌then◌else◌, is_some}
use Rattle.descriptor_parse.specs.declared.field.Field.{Field}
use Rattle.field_values.specs.Held.{is_held}
use Rattle.field_values.specs.Lists.{IsFirst, IsUnlisted}
use Rattle.report_write.specs.declared.setting.WriteError.{WriteError}
use Rattle.report_write.specs.declared.setting.WriteError.TheVariants.{Unknown, Twice, TooLarge, OutOfRange, NoRoom}
use Rattle.report_write.specs.Firsts.{first}
use Rattle.report_write.specs.Controls.{number_of}
use Rattle.report_write.specs.Puts.{is_set}
use Rattle.report_write.specs.Arrays.{names, place_for, taken_place, on_refusal, off_refusal}
use Rattle.report_write.proofs.Controls.{listed_first, not_listed}

-- ---- the first of three that holds

too_large : (held over : Bool) (a b rest : Option WriteError) → held ≡ false → (if not held then a else (if over then b else rest)) ≡ a
too_large held over a b rest h = rw h refl

out_of_range : (held over : Bool) (a b rest : Option WriteError) → held ≡ true → over ≡ true → (if not held then a else (if over then b else rest)) ≡ b
out_of_range held over a b rest h o = rw (h, o) refl

goes_on : (held over : Bool) (a b rest : Option WriteError) → held ≡ true → over ≡ false → (if not held then a else (if over then b else rest)) ≡ rest
goes_on held over a b rest h o = rw (h, o) refl

pick_true : (b : Bool) (x y : Option WriteError) → b ≡ true → (if b then x else y) ≡ x
pick_true b x y e = rw e refl

pick_false : (b : Bool) (x y : Option WriteError) → b ≡ false → (if b then x else y) ≡ y
pick_false b x y e = rw e refl

-- ---- a usage that is put in

pub on_unknown : (f : Field) (usages bytes marks : List ℕ) (usage number : ℕ) → IsUnlisted usages usage
    → on_refusal f usages bytes marks usage number (number_of usages usage) ≡ Some (Unknown number)
on_unknown f usages bytes marks usage number u = ap (on_refusal f usages bytes marks usage number) (not_listed usages usage u)

pub on_too_large : (f : Field) (usages bytes marks : List ℕ) (usage number listed : ℕ) (value : ℤ) → IsFirst usages usage listed
    → value ≡ f.min +ℤ pos listed → is_held f.min f.size value ≡ false
    → on_refusal f usages bytes marks usage number (number_of usages usage) ≡ Some (TooLarge number)
on_too_large f usages bytes marks usage number listed value i v h =
    ap (on_refusal f usages bytes marks usage number) (listed_first usages usage listed i)
    ∙ too_large (is_held f.min f.size (f.min +ℤ pos listed)) (int_lt f.max (f.min +ℤ pos listed)) (Some (TooLarge number)) (Some (OutOfRange number))
    (taken_place f marks number (place_for f usages bytes marks usage)) (sym (ap (is_held f.min f.size) v) ∙ h)

pub on_out_of_range : (f : Field) (usages bytes marks : List ℕ) (usage number listed : ℕ) (value : ℤ) → IsFirst usages usage listed
    → value ≡ f.min +ℤ pos listed → is_held f.min f.size value ≡ true → int_lt f.max value ≡ true
    → on_refusal f usages bytes marks usage number (number_of usages usage) ≡ Some (OutOfRange number)
on_out_of_range f usages bytes marks usage number listed value i v h o =
    ap (on_refusal f usages bytes marks usage number) (listed_first usages usage listed i)
    ∙ out_of_range (is_held f.min f.size (f.min +ℤ pos listed)) (int_lt f.max (f.min +ℤ pos listed)) (Some (TooLarge number)) (Some (OutOfRange number))
    (taken_place f marks number (place_for f usages bytes marks usage)) (sym (ap (is_held f.min f.size) v) ∙ h) (sym (ap (int_lt f.max) v) ∙ o)

-- by the place that is taken
pub on_place : (f : Field) (usages bytes marks : List ℕ) (usage number listed : ℕ) (value : ℤ) (place : Option ℕ) → IsFirst usages usage listed
    → value ≡ f.min +ℤ pos listed → is_held f.min f.size value ≡ true → int_lt f.max value ≡ false → place ≡ place_for f usages bytes marks usage
    → on_refusal f usages bytes marks usage number (number_of usages usage) ≡ taken_place f marks number place
on_place f usages bytes marks usage number listed value place i v h o p =
    ap (on_refusal f usages bytes marks usage number) (listed_first usages usage listed i)
    ∙ goes_on (is_held f.min f.size (f.min +ℤ pos listed)) (int_lt f.max (f.min +ℤ pos listed)) (Some (TooLarge number)) (Some (OutOfRange number))
    (taken_place f marks number (place_for f usages bytes marks usage)) (sym (ap (is_held f.min f.size) v) ∙ h) (sym (ap (int_lt f.max) v) ∙ o)
    ∙ sym (ap (taken_place f marks number) p)

pub taken_twice : (f : Field) (marks : List ℕ) (number place : ℕ) → is_set f marks place ≡ true → taken_place f marks number (Some place) ≡ Some (Twice number)
taken_twice f marks number place s = pick_true (is_set f marks place) (Some (Twice number)) None s

pub taken_once : (f : Field) (marks : List ℕ) (number place : ℕ) → is_set f marks place ≡ false → taken_place f marks number (Some place) ≡ None
taken_once f marks number place s = pick_false (is_set f marks place) (Some (Twice number)) None s

-- ---- one that is taken out

pub off_no_room : (f : Field) (usages bytes marks : List ℕ) (usage number : ℕ) (value : Option ℤ) → None ≡ value
    → off_refusal f usages bytes marks usage number value ≡ Some (NoRoom number)
off_no_room f usages bytes marks usage number value e = ap (off_refusal f usages bytes marks usage number) (sym e)

pub off_twice : (f : Field) (usages bytes marks : List ℕ) (usage number : ℕ) (value : Option ℤ) (some : ℤ) → Some some ≡ value
    → is_some (first (λ place. names f usages bytes usage place && is_set f marks place) f.count) ≡ true
    → off_refusal f usages bytes marks usage number value ≡ Some (Twice number)
off_twice f usages bytes marks usage number value some e s =
    ap (off_refusal f usages bytes marks usage number) (sym e)
    ∙ pick_true (is_some (first (λ place. names f usages bytes usage place && is_set f marks place) f.count)) (Some (Twice number)) None s

pub off_once : (f : Field) (usages bytes marks : List ℕ) (usage number : ℕ) (value : Option ℤ) (some : ℤ) → Some some ≡ value
    → is_some (first (λ place. names f usages bytes usage place && is_set f marks place) f.count) ≡ false
    → off_refusal f usages bytes marks usage number value ≡ None
off_once f usages bytes marks usage number value some e s =
    ap (off_refusal f usages bytes marks usage number) (sym e)
    ∙ pick_false (is_some (first (λ place. names f usages bytes usage place && is_set f marks place) f.count)) (Some (Twice number)) None s
