-- Where the next bits of a report begin, by what was declared.
use Rattle.std.proofs.Common.{◌≡◌, ℕ, ◌+◌, ◌-◌, ◌*◌, ◌^◌, ◌≤◌, List, [], ◌∷◌, ◌++◌, length, refl, arith, ◌∙◌, ap, true, false, cond, inl, inr, Some, reverse}
use Rattle.std.proofs.lemmas.Bool.{cases_Bool, eqb-true, and_parts, ltb-false}
use Rattle.std.proofs.lemmas.List.{reverse-append}
use Rattle.std.specs.Prelude.{find, min, nat_lt, ◌==◌, ◌&&◌}
use Rattle.descriptor_parse.specs.declared.field.Kind.{Kind}
use Rattle.descriptor_parse.specs.declared.field.Kind.TheVariants.{Input, Output, Feature}
use Rattle.descriptor_parse.specs.declared.tag.Tag.{Tag}
use Rattle.descriptor_parse.specs.declared.tag.Tag.TheVariants.{Main, Global, Local, Skipped}
use Rattle.descriptor_parse.specs.declared.tag.MainTag.TheVariants.{Data, Collection, EndCollection}
use Rattle.descriptor_parse.specs.Items.{ItemValue}
use Rattle.descriptor_parse.specs.Tags.{tag, same_kind, is_data, is_data_of}
use Rattle.descriptor_parse.specs.Globals.{report_size, report_count, report_id}
use Rattle.descriptor_parse.specs.Fields.{report_bits, takes_bit}
use Rattle.field_details.specs.declared.detail.Detail.{Detail}
use Rattle.field_details.specs.Details.{declared_detail, details}
use Rattle.field_details.specs.representation.Relation.{end_of, end_of_some, end_in}
use Rattle.field_details.specs.declared.report.ReportFacts.{ReportFacts}
use Rattle.field_details.specs.Reports.{is_of_report, facts}
use Rattle.field_details.specs.representation.Asked.{facts_in}

-- one more at the end
pub end_in_more : (kind : Kind) (id : ℕ) (reported : List Detail) (last : Detail)
    → end_in kind id (reported ++ last ∷ []) ≡ cond (is_of_report kind id last) (end_of last) (end_in kind id reported)
end_in_more kind id reported last =
    let turned : reverse (reported ++ last ∷ []) ≡ last ∷ reverse reported = reverse-append reported (last ∷ []) in
    rw turned (elim (is_of_report kind id last) as (λ b. end_of_some (cond b (Some last) (find (is_of_report kind id) (reverse reported)))
    ≡ cond b (end_of last) (end_in kind id reported)) [ true ↦ refl | false ↦ refl ])

pub end_in_none : (kind : Kind) (id : ℕ) (reported : List Detail) → length reported ≡ 0 → 0 ≡ end_in kind id reported
end_in_none kind id [] none = refl
end_in_none kind id (x ∷ xs) none = absurd (omega arith)

-- what a data item adds
details_data : (before : List ItemValue) (item : ItemValue) (k : Kind) → tag item ≡ Main (Data k)
    → details (item ∷ before) ≡ cond (takes_bit before) (details before ++ declared_detail before item ∷ []) (details before)
unfolding details
details_data before item k e = rw e refl

bits_data : (kind : Kind) (id : ℕ) (before : List ItemValue) (item : ItemValue) (k : Kind) → tag item ≡ Main (Data k)
    → report_bits kind id (item ∷ before) ≡ cond (same_kind kind k && report_id before == id) (report_bits kind id before + report_size before * report_count before) (report_bits kind id before)
unfolding report_bits
bits_data kind id before item k e = rw e refl

-- no other item adds anything
pub details_other : (before : List ItemValue) (item : ItemValue) → is_data (tag item) ≡ false → details (item ∷ before) ≡ details before
unfolding details
details_other before item n = rw n refl

no_data_of : (kind : Kind) (t : Tag) → is_data t ≡ false → is_data_of kind t ≡ false
no_data_of kind (Main (Data k)) n = cc
no_data_of kind (Main Collection) n = refl
no_data_of kind (Main EndCollection) n = refl
no_data_of kind (Global g) n = refl
no_data_of kind (Local l) n = refl
no_data_of kind Skipped n = refl

bits_other : (kind : Kind) (id : ℕ) (before : List ItemValue) (item : ItemValue) → is_data (tag item) ≡ false → report_bits kind id (item ∷ before) ≡ report_bits kind id before
unfolding report_bits
bits_other kind id before item n = rw (no_data_of kind (tag item) n) refl

same_kinds : (a b : Kind) → same_kind a b ≡ true → a ≡ b
same_kinds Input Input e = refl
same_kinds Output Output e = refl
same_kinds Feature Feature e = refl
same_kinds Input Output e = cc
same_kinds Input Feature e = cc
same_kinds Output Input e = cc
same_kinds Output Feature e = cc
same_kinds Feature Input e = cc
same_kinds Feature Output e = cc

no_bit : (size count : ℕ) → (nat_lt 0 size && nat_lt 0 count) ≡ false → size * count ≡ 0
no_bit size count n =
    elim (cases_Bool (nat_lt 0 size)) [
      | inl s ↦ (let n' : nat_lt 0 count ≡ false = (rw s at n) in let z : count ≤ 0 = ltb-false _ _ n' in let z' : count ≡ 0 = omega arith in rw z' (omega arith))
      | inr s ↦ (let z : size ≤ 0 = ltb-false _ _ s in let z' : size ≡ 0 = omega arith in rw z' (omega arith))
    ]

after_data : (kind : Kind) (id : ℕ) (before : List ItemValue) (item : ItemValue) (k : Kind) → tag item ≡ Main (Data k)
    → end_in kind id (details before) ≡ min (2 ^ 64 - 1) (report_bits kind id before)
    → end_in kind id (details (item ∷ before)) ≡ min (2 ^ 64 - 1) (report_bits kind id (item ∷ before))
after_data kind id before item k e known =
    let of_it : is_of_report kind id (declared_detail before item) ≡ (same_kind kind k && report_id before == id) = rw e refl in
    elim (cases_Bool (takes_bit before)) [
      | inl fills ↦ (elim (cases_Bool (same_kind kind k && report_id before == id)) [
        | inl mine ↦ (let parts = and_parts (same_kind kind k) (report_id before == id) mine in
            let same : kind ≡ k = same_kinds kind k parts.0 in
            let same_id : report_id before ≡ id = eqb-true _ _ parts.1 in
            let bit : (declared_detail before item).bit ≡ min (2 ^ 64 - 1) (report_bits kind id before) = rw (e, same, same_id) refl in
            rw (details_data before item k e, fills, bits_data kind id before item k e, mine, end_in_more kind id (details before) (declared_detail before item), of_it, mine, bit) (omega arith))
        | inr not_mine ↦ rw (details_data before item k e, fills, bits_data kind id before item k e, not_mine, end_in_more kind id (details before) (declared_detail before item), of_it, not_mine) known
      ])
      | inr empty ↦ (let none : report_size before * report_count before ≡ 0 = no_bit (report_size before) (report_count before) empty in
          let same : report_bits kind id (item ∷ before) ≡ report_bits kind id before =
          bits_data kind id before item k e ∙ (elim (same_kind kind k && report_id before == id) as (λ b. cond b (report_bits kind id before + report_size before * report_count before) (report_bits kind id before) ≡ report_bits kind id before) [
            | true ↦ omega arith
            | false ↦ refl
          ]) in
          rw (details_data before item k e, empty, same) known)
    ]

after_item : (t : Tag) (kind : Kind) (id : ℕ) (before : List ItemValue) (item : ItemValue) → tag item ≡ t
    → end_in kind id (details before) ≡ min (2 ^ 64 - 1) (report_bits kind id before)
    → end_in kind id (details (item ∷ before)) ≡ min (2 ^ 64 - 1) (report_bits kind id (item ∷ before))
after_item (Main (Data k)) kind id before item e known = after_data kind id before item k e known
after_item (Main Collection) kind id before item e known = rw (details_other before item (ap is_data e), bits_other kind id before item (ap is_data e)) known
after_item (Main EndCollection) kind id before item e known = rw (details_other before item (ap is_data e), bits_other kind id before item (ap is_data e)) known
after_item (Global g) kind id before item e known = rw (details_other before item (ap is_data e), bits_other kind id before item (ap is_data e)) known
after_item (Local l) kind id before item e known = rw (details_other before item (ap is_data e), bits_other kind id before item (ap is_data e)) known
after_item Skipped kind id before item e known = rw (details_other before item (ap is_data e), bits_other kind id before item (ap is_data e)) known

-- the bit after the last declared item of a report is that after all its bits
pub reported_bits : (kind : Kind) (id : ℕ) (before : List ItemValue) → end_in kind id (details before) ≡ min (2 ^ 64 - 1) (report_bits kind id before)
unfolding details report_bits
reported_bits kind id [] = refl
reported_bits kind id (item ∷ before) = after_item (tag item) kind id before item refl (reported_bits kind id before)

abbrev pub facts_with : Kind → ℕ → ℕ → ReportFacts
facts_with kind id bits = record { kind = kind; id = id; bits = bits }

-- a report's facts are those of all its data items
pub facts_are : (items : List ItemValue) (p : ℕ × Detail) → facts_in (details items) p ≡ facts items p
facts_are items p = ap (facts_with p.1.kind p.1.id) (reported_bits p.1.kind p.1.id items)
