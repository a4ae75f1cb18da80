use Rattle.std.proofs.Common.{◌≡◌, ℕ, ◌<◌, ◌≤◌, true, false, List, [], ◌∷◌, length, arith, refl, sym, ◌∙◌, ap, Some, None, eqb}
use Rattle.std.specs.Prelude.{Option}
use Rattle.std.proofs.lemmas.Bool.{lt-ltb, le-ltb, eqb-true, eqb-false}
use Rattle.descriptor_parse.specs.declared.field.Kind.TheVariants.{Input}
use Rattle.descriptor_parse.specs.Descriptor.{DescriptorValue, report_len}
use Rattle.host_extract.specs.declared.error.ExtractError.TheVariants.{Empty, UnknownId, Short}
use Rattle.host_extract.specs.Found.{id_of}
use Rattle.host_extract.specs.Refusals.{refusal, refused_by_len}

pub refused-empty : (d : DescriptorValue) (report : List ℕ) → true ≡ eqb (length report) 0 → Some Empty ≡ refusal d report
unfolding refusal
refused-empty d [] e = refl
refused-empty d (b ∷ bs) e = absurd (let z = eqb-true (length (b ∷ bs)) 0 (sym e) in omega arith)

by-len : (d : DescriptorValue) (report : List ℕ) (id : ℕ) (len : Option ℕ) → false ≡ eqb (length report) 0 → id ≡ id_of d report → len ≡ report_len d Input id
    → refusal d report ≡ refused_by_len d report len
unfolding refusal
by-len d [] id len e i l = absurd (let z = eqb-false 0 0 (sym e) in z refl)
by-len d (b ∷ bs) id len e i l = sym (ap (refused_by_len d (b ∷ bs)) (l ∙ ap (report_len d Input) i))

pub refused-short : (d : DescriptorValue) (report : List ℕ) (id len : ℕ) → false ≡ eqb (length report) 0 → id ≡ id_of d report → Some len ≡ report_len d Input id
    → length report < len → Some Short ≡ refusal d report
refused-short d report id len e i l s = sym (by-len d report id (Some len) e i l ∙ rw (lt-ltb (length report) len s) refl)

pub long-enough : (d : DescriptorValue) (report : List ℕ) (id len : ℕ) → false ≡ eqb (length report) 0 → id ≡ id_of d report → Some len ≡ report_len d Input id
    → len ≤ length report → None ≡ refusal d report
long-enough d report id len e i l s = sym (by-len d report id (Some len) e i l ∙ rw (le-ltb (length report) len s) refl)

pub refused-unknown : (d : DescriptorValue) (report : List ℕ) (id : ℕ) → false ≡ eqb (length report) 0 → id ≡ id_of d report → None ≡ report_len d Input id
    → true ≡ d.uses_ids → Some UnknownId ≡ refusal d report
refused-unknown d report id e i l u = sym (by-len d report id None e i l ∙ rw (sym u) refl)

pub nothing-declared : (d : DescriptorValue) (report : List ℕ) (id : ℕ) → false ≡ eqb (length report) 0 → id ≡ id_of d report → None ≡ report_len d Input id
    → false ≡ d.uses_ids → None ≡ refusal d report
nothing-declared d report id e i l u = sym (by-len d report id None e i l ∙ rw (sym u) refl)
