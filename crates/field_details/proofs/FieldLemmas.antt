-- The fields of the parser among the data items that are reported.
use Rattle.std.proofs.Common.{◌≡◌, List, [], ◌∷◌, ◌++◌, refl, ap, ◌∙◌, true, false, cond, inl, inr, map}
use Rattle.std.proofs.lemmas.Bool.{cases_Bool}
use Rattle.std.proofs.lemmas.List.{map-append, append-nil}
use Rattle.std.proofs.lemmas.List.Elements.{filter-append}
use Rattle.std.specs.Prelude.{filter}
use Rattle.descriptor_parse.specs.Items.{ItemValue}
use Rattle.descriptor_parse.specs.Tags.{tag, is_data}
use Rattle.descriptor_parse.specs.Fields.{fields, declared_field, is_constant, takes_bit}
use Rattle.field_details.specs.declared.detail.Detail.{Detail}
use Rattle.field_details.specs.Details.{details, declared_detail}
use Rattle.field_details.specs.AsFields.{is_of_data, field_of, as_counted}

-- one more
one_more : (reported : List Detail) (last : Detail) → map field_of (filter is_of_data (reported ++ last ∷ []))
    ≡ cond (is_of_data last) (map field_of (filter is_of_data reported) ++ field_of last ∷ []) (map field_of (filter is_of_data reported))
one_more reported last =
    ap (map field_of) (filter-append is_of_data reported (last ∷ []))
    ∙ map-append field_of (filter is_of_data reported) (filter is_of_data (last ∷ []))
    ∙ (elim (is_of_data last) as (λ b. map field_of (filter is_of_data reported) ++ map field_of (cond b (last ∷ []) [])
    ≡ cond b (map field_of (filter is_of_data reported) ++ field_of last ∷ []) (map field_of (filter is_of_data reported))) [
      | true ↦ refl
      | false ↦ append-nil (map field_of (filter is_of_data reported))
    ])

pub are_reported : (items : List ItemValue) → map field_of (filter is_of_data (details items)) ≡ map as_counted (fields items)
unfolding details fields
are_reported [] = refl
are_reported (item ∷ before) =
    elim (cases_Bool (is_data (tag item))) [
      | inr other ↦ rw (other) (are_reported before)
      | inl data_item ↦ (elim (cases_Bool (takes_bit before)) [
        | inr empty ↦ (elim (cases_Bool (is_constant item)) [
          | inl padding ↦ rw (data_item, empty, padding) (are_reported before)
          | inr reported ↦ rw (data_item, empty, reported) (are_reported before)
        ])
        | inl fills ↦ (elim (cases_Bool (is_constant item)) [
          | inl padding ↦ rw (data_item, fills, padding, one_more (details before) (declared_detail before item), padding) (are_reported before)
          | inr reported ↦ rw (data_item, fills, reported, one_more (details before) (declared_detail before item), reported, map-append as_counted (fields before) (declared_field before item ∷ []), are_reported before) refl
        ])
      ])
    ]
