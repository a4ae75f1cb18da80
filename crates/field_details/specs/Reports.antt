-- Trusted: the data items and collections that are asked for, and the reports that a descriptor declares.
use Rattle.std.specs.Prelude.{ℕ, ◌+◌, ◌-◌, ◌^◌, ◌==◌, ◌&&◌, min, not, Bool, false, List, [], ◌∷◌, map, filter, take, Option, option_map, unwrap_or}
use Rattle.std.specs.List.{list_any}
use Rattle.descriptor_parse.specs.declared.field.Kind.{Kind}
use Rattle.descriptor_parse.specs.Items.{ItemValue}
use Rattle.descriptor_parse.specs.Tags.{same_kind}
use Rattle.descriptor_parse.specs.Fields.{report_bits}
use Rattle.field_details.specs.declared.collection.Collection.{Collection}
use Rattle.field_details.specs.declared.detail.Detail.{Detail}
use Rattle.field_details.specs.declared.report.ReportFacts.{ReportFacts}
use Rattle.field_details.specs.AsFields.{is_of_data}
use Rattle.field_details.specs.Collections.{collections}
use Rattle.field_details.specs.Details.{details}
use Rattle.field_details.specs.Around.{application}

-- the elements of a list with their places, the first of which is n
abbrev pub numbered : {A : Type 0} → ℕ → List A → List (ℕ × A)
numbered n [] = []
numbered n (x ∷ xs) = (n, x) ∷ numbered (n + 1) xs

-- a data item is of this report
abbrev pub is_of_report : Kind → ℕ → Detail → Bool
is_of_report kind id detail = same_kind kind detail.kind && detail.id == id

-- the data items that are not Constant, those that are, and those of a report, with their places among all
abbrev pub data_fields : List Detail → List (ℕ × Detail)
data_fields reported = filter (λ p. is_of_data p.1) (numbered 0 reported)

abbrev pub padding : List Detail → List (ℕ × Detail)
padding reported = filter (λ p. not (is_of_data p.1)) (numbered 0 reported)

abbrev pub report : Kind → ℕ → List Detail → List (ℕ × Detail)
report kind id reported = filter (λ p. is_of_report kind id p.1) (numbered 0 reported)

-- ---- the reports

-- a data item with none of its report before it
abbrev pub is_first : List Detail → ℕ × Detail → Bool
is_first reported p = not (list_any (is_of_report p.1.kind p.1.id) (take p.0 reported))

-- of the report of a data item: its bits are those of all its data items, as far as 64 bits count
abbrev pub facts : List ItemValue → ℕ × Detail → ReportFacts
facts items p = record { kind = p.1.kind; id = p.1.id; bits = min (2 ^ 64 - 1) (report_bits p.1.kind p.1.id items) }

-- the reports, by their first data items
abbrev pub reports : List ItemValue → List ReportFacts
reports items = map (facts items) (filter (is_first (details items)) (numbered 0 (details items)))

-- ---- applications

-- Here the application of a data item, innermost, is a function of its place.

-- a data item at a place belongs to this application
abbrev pub is_inside : (ℕ → Option ℕ) → ℕ → ℕ → Bool
is_inside of number place = unwrap_or (option_map (λ n. n == number) (of place)) false

-- one of these data items is of the report and belongs to the application
abbrev pub has_inside : (ℕ → Option ℕ) → ℕ → Kind → ℕ → List Detail → Bool
has_inside of number kind id reported = list_any (λ p. is_of_report kind id p.1 && is_inside of number p.0) (numbered 0 reported)

-- a data item of the application with none of its report and of the application before it
abbrev pub is_first_inside : (ℕ → Option ℕ) → ℕ → List Detail → ℕ × Detail → Bool
is_first_inside of number reported p = is_inside of number p.0 && not (has_inside of number p.1.kind p.1.id (take p.0 reported))

-- kind and ID
abbrev pub report_named : ℕ × Detail → Kind × ℕ
report_named p = (p.1.kind, p.1.id)

-- the reports that have a data item in an application, by their first one in it
abbrev pub reports_of : List ItemValue → ℕ → List (Kind × ℕ)
reports_of items number = map report_named (filter (is_first_inside (application items) number (details items)) (numbered 0 (details items)))

-- the Application collections with their numbers (HID 1.11, 6.2.2.6)
abbrev pub applications : List Collection → List (ℕ × Collection)
applications groups = filter (λ p. p.1.kind == 1) (numbered 0 groups)

-- those that a data item of a report belongs to
abbrev pub applications_of : List ItemValue → Kind → ℕ → List (ℕ × Collection)
applications_of items kind id =
    filter (λ p. p.1.kind == 1 && has_inside (application items) p.0 kind id (details items)) (numbered 0 (collections items))
