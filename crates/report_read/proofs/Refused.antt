-- Which reports are refused.
use Rattle.std.proofs.Common.{◌≡◌, ℕ, ◌+◌, ◌/◌, ◌<◌, ◌≤◌, true, false, List, [], ◌∷◌, length, arith, refl, sym, ◌∙◌, ap, Some, None, eqb}
use Rattle.std.specs.Prelude.{Bool, unwrap_or, if◌then◌else◌, map, drop}
use Rattle.std.proofs.lemmas.Bool.{lt-ltb, le-ltb, eqb-true, eqb-false}
use Rattle.descriptor_parse.specs.declared.field.Kind.{Kind}
use Rattle.descriptor_parse.specs.Descriptor.{DescriptorValue, bits_of, report_len}
use Rattle.host_extract.specs.Found.{id_of, bytes_of}
use Rattle.report_write.specs.Fields.{kept_fields}
use Rattle.report_read.specs.declared.lane.Lane.{Lane}
use Rattle.report_read.specs.declared.error.ReadingError.TheVariants.{Empty, UnknownReport, Short}
use Rattle.report_read.specs.Items.{null_states_of}
use Rattle.report_read.specs.Values.{ReaderValue, ReadingValue, reading}
use Rattle.report_read.specs.representation.Lanes.{values_of_lanes}
use Rattle.report_read.proofs.Lists.{values_of_kept}
use Rattle.report_read.specs.Refusals.{refusal, refused_by_len}

pub refused_empty : (d : DescriptorValue) (kind : Kind) (report : List ℕ) → true ≡ eqb (length report) 0 → refusal d kind report ≡ Some Empty
unfolding refusal
refused_empty d kind [] e = refl
refused_empty d kind (b ∷ bs) e = absurd (let z = eqb-true (length (b ∷ bs)) 0 (sym e) in omega arith)

by_len : (d : DescriptorValue) (kind : Kind) (report : List ℕ) (id : ℕ) → false ≡ eqb (length report) 0 → id ≡ id_of d report
    → refusal d kind report ≡ refused_by_len report (report_len d kind id)
unfolding refusal
by_len d kind [] id e i = absurd (let z = eqb-false 0 0 (sym e) in z refl)
by_len d kind (b ∷ bs) id e i = ap (λ n. refused_by_len (b ∷ bs) (report_len d kind n)) (sym i)

-- the length of a report is at least 1
zero_len : (b : Bool) (n len : ℕ) → (b ≡ false → 0 < n) → len ≡ unwrap_or (if b then None else Some n) 0 → len ≡ 0 → (if b then None else Some n) ≡ None
zero_len true n len p e z = refl
zero_len false n len p e z = absurd (let q : 0 < n = p refl in omega arith)

some_len : (b : Bool) (n len : ℕ) → len ≡ unwrap_or (if b then None else Some n) 0 → 0 < len → (if b then None else Some n) ≡ Some len
some_len true n len e z = absurd (omega arith)
some_len false n len e z = ap Some (sym e)

plus_some : (b n : ℕ) → eqb b 0 ≡ false → 0 < (b + 7) / 8 + n
plus_some b n e = let some = eqb-false b 0 e in omega arith

pub refused_unknown : (d : DescriptorValue) (kind : Kind) (report : List ℕ) (id len : ℕ) → false ≡ eqb (length report) 0 → id ≡ id_of d report
    → len ≡ unwrap_or (report_len d kind id) 0 → len ≡ 0 → refusal d kind report ≡ Some UnknownReport
refused_unknown d kind report id len e i l z =
    by_len d kind report id e i ∙ ap (refused_by_len report) (zero_len (eqb (bits_of d kind id) 0) _ len (plus_some (bits_of d kind id) _) l z)

pub refused_short : (d : DescriptorValue) (kind : Kind) (report : List ℕ) (id len : ℕ) → false ≡ eqb (length report) 0 → id ≡ id_of d report
    → len ≡ unwrap_or (report_len d kind id) 0 → 0 < len → length report < len → refusal d kind report ≡ Some Short
refused_short d kind report id len e i l z s =
    by_len d kind report id e i ∙ ap (refused_by_len report) (some_len (eqb (bits_of d kind id) 0) _ len l z) ∙ rw (lt-ltb (length report) len s) refl

pub long_enough : (d : DescriptorValue) (kind : Kind) (report : List ℕ) (id len : ℕ) → false ≡ eqb (length report) 0 → id ≡ id_of d report
    → len ≡ unwrap_or (report_len d kind id) 0 → 0 < len → len ≤ length report → refusal d kind report ≡ None
long_enough d kind report id len e i l z s =
    by_len d kind report id e i ∙ ap (refused_by_len report) (some_len (eqb (bits_of d kind id) 0) _ len l z) ∙ rw (le-ltb (length report) len s) refl

-- what is read
pub is_reading : (reader : ReaderValue) (kind : Kind) (report bytes rest : List ℕ) (id len : ℕ) (lanes : List Lane) (result : ReadingValue)
    → id ≡ id_of reader.descriptor report → bytes ≡ bytes_of reader.descriptor report → len ≡ unwrap_or (report_len reader.descriptor kind id) 0
    → rest ≡ drop len report → map (λ lane. lane.kept) lanes ≡ kept_fields reader.descriptor (null_states_of reader.details.fields.items) kind id
    → result ≡ record { id = id; rest = rest; left = values_of_lanes reader.descriptor bytes lanes } → result ≡ reading reader kind report
unfolding reading
is_reading reader kind report bytes rest id len lanes result i b l r k e =
    e ∙ rw (values_of_kept reader.descriptor bytes lanes _ k, r, l, b, i) refl
