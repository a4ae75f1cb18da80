-- A usage that a list has once, and that a place names, is in an Array.
use Rattle.std.proofs.Common.{◌≡◌, ℕ, ◌<◌, Bool, true, false, List, arith, refl, sym, ◌∙◌, ap, Some, None}
use Rattle.std.specs.Prelude.{Option, int_lt, if◌then◌else◌, slice_get}
use Rattle.std.specs.Int.{int_gap}
use Rattle.std.proofs.lemmas.Bool.{eqb-true, eq-eqb}
use Rattle.descriptor_parse.specs.declared.field.Field.{Field}
use Rattle.host_extract.specs.Found.{value_at}
use Rattle.field_values.specs.Held.{is_within}
use Rattle.field_values.specs.Lists.{IsFirst}
use Rattle.field_values.specs.Values.{listed, usage_read}
use Rattle.report_write.specs.Firsts.{first}
use Rattle.report_write.specs.Controls.{is_usage}
use Rattle.report_write.specs.Arrays.{names}
use Rattle.report_write.specs.Held.{IsNamed}
use Rattle.report_write.proofs.Controls.{listed_first}
use Rattle.report_write.proofs.Firsts.{none_passes, first_passes, not_both}
use Rattle.report_write.proofs.UnusedNone.{gap_back, within_is}

read_of : (o : Option ℕ) (usage : ℕ) → is_usage usage o ≡ true → o ≡ Some usage
read_of None usage e = absurd (cc)
read_of (Some other) usage e = ap Some (eqb-true other usage e)

pub by_list : (array : Bool) (in_list own : Option ℕ) → array ≡ true → (if array then in_list else own) ≡ in_list
by_list array in_list own a = rw a refl

inside : (within : Bool) (o : Option ℕ) (usage : ℕ) → (if within then o else None) ≡ Some usage → (within ≡ true) × (o ≡ Some usage)
inside true o usage e = (refl, e)
inside false o usage e = absurd (cc)

only_first : (usages : List ℕ) (usage number : ℕ) → ((a b : ℕ) → slice_get usages a ≡ Some usage → slice_get usages b ≡ Some usage → a ≡ b)
    → slice_get usages number ≡ Some usage → IsFirst usages usage number
only_first usages usage number once here = record {
  here = here;
  first = λ before l e. (let same : before ≡ number = once before number e here in absurd (omega arith));
}

by_first : (f : Field) (usages bytes : List ℕ) (usage place : ℕ) (found : Option ℕ) → f.array ≡ true
    → ((a b : ℕ) → slice_get usages a ≡ Some usage → slice_get usages b ≡ Some usage → a ≡ b)
    → place < f.count → names f usages bytes usage place ≡ true
    → first (names f usages bytes usage) f.count ≡ found → IsNamed f usages usage bytes
by_first f usages bytes usage place None array once below named e =
    not_both (names f usages bytes usage place) named (none_passes (names f usages bytes usage) f.count place e below)
by_first f usages bytes usage place (Some chosen) array once below named e =
    let value = value_at f bytes chosen in
    let read = read_of (usage_read f usages chosen value) usage (first_passes (names f usages bytes usage) f.count chosen e) in
    let in_list : listed f usages value ≡ Some usage = sym (by_list f.array (listed f usages value) _ array) ∙ read in
    let (within, here) = inside (is_within f value) (slice_get usages (int_gap f.min value)) usage in_list in
    let (least, most) = within_is (int_lt value f.min) (int_lt f.max value) f value refl refl within in
    record {
      place = chosen;
      listed = int_gap f.min value;
      named = e;
      number = listed_first usages usage (int_gap f.min value) (only_first usages usage (int_gap f.min value) once here);
      value = sym (gap_back f.min value least);
    }

pub named_once : (f : Field) (usages bytes : List ℕ) (usage place : ℕ) → f.array ≡ true
    → ((a b : ℕ) → slice_get usages a ≡ Some usage → slice_get usages b ≡ Some usage → a ≡ b)
    → place < f.count → usage_read f usages place (value_at f bytes place) ≡ Some usage → IsNamed f usages usage bytes
named_once f usages bytes usage place array once below read =
    by_first f usages bytes usage place (first (names f usages bytes usage) f.count) array once below
    (ap (is_usage usage) read ∙ eq-eqb usage usage refl) refl
