-- Representation: what is left to be given of what was asked.
use Rattle.std.specs.Prelude.{ℕ, zero, suc, ◌==◌, ◌&&◌, not, Bool, List, [], ◌∷◌, drop, filter, find, Option, None, Some}
use Rattle.std.specs.Borrow.{Bor}
use Rattle.descriptor_parse.specs.declared.field.Kind.{Kind}
use Rattle.field_details.specs.declared.collection.Collection.{Collection}
use Rattle.field_details.specs.declared.detail.Detail.{Detail}
use Rattle.field_details.specs.declared.placed.Placed.{Placed}
use Rattle.field_details.specs.declared.placed.Question.{Question}
use Rattle.field_details.specs.declared.placed.Question.TheVariants.{Data, Padding, Report, First, FirstInside}
use Rattle.field_details.specs.declared.report.ReportFacts.{ReportFacts}
use Rattle.field_details.specs.AsFields.{is_of_data}
use Rattle.field_details.specs.Around.{is_application, inside_in}
use Rattle.field_details.specs.representation.Around.{outer_in, height}
use Rattle.field_details.specs.Reports.{numbered, is_of_report, is_first, is_first_inside, has_inside}
use Rattle.field_details.specs.representation.Relation.{end_in}

-- ---- the collections outwards from one, by their numbers

-- n of them at most, innermost first
abbrev pub outwards : ℕ → List Collection → Option ℕ → List ℕ
outwards n groups None = []
outwards zero groups (Some number) = []
outwards (suc n) groups (Some number) = number ∷ outwards n groups (outer_in groups number)

abbrev pub all_outwards : List Collection → Option ℕ → List ℕ
all_outwards groups next = outwards (height next) groups next

-- the first Application collection among those of a data item
abbrev pub application_in : List Detail → List Collection → ℕ → Option ℕ
application_in reported groups place = find (is_application groups) (all_outwards groups (inside_in reported place))

-- ---- data items and collections from a place on

abbrev pub placed_view : Placed → ℕ × Detail
placed_view placed = (placed.place, placed.detail.now)

abbrev pub group_view : ℕ × Bor Collection → ℕ × Collection
group_view group = (group.0, group.1.now)

abbrev pub left : {A : Type 0} → (ℕ × A → Bool) → List A → ℕ → List (ℕ × A)
left test reported n = filter test (numbered n (drop n reported))

abbrev pub passes : Question → List Detail → List Collection → ℕ × Detail → Bool
passes Data reported groups = λ p. is_of_data p.1
passes Padding reported groups = λ p. not (is_of_data p.1)
passes (Report kind id) reported groups = λ p. is_of_report kind id p.1
passes First reported groups = is_first reported
passes (FirstInside number) reported groups = is_first_inside (application_in reported groups) number reported

-- a report's facts, by what was declared
abbrev pub facts_in : List Detail → ℕ × Detail → ReportFacts
facts_in reported p = record { kind = p.1.kind; id = p.1.id; bits = end_in p.1.kind p.1.id reported }

-- an Application collection, of a report where one is asked for
abbrev pub belongs : Option (Kind × ℕ) → List Detail → List Collection → ℕ × Collection → Bool
belongs None reported groups = λ p. p.1.kind == 1
belongs (Some report) reported groups = λ p. p.1.kind == 1 && has_inside (application_in reported groups) p.0 report.0 report.1 reported
