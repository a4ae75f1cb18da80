-- Representation: the fields of each report in a chain, of which the table of IDs has the first, and each field the next.
use Rattle.std.specs.Prelude.{◌≡◌, ℕ, ◌+◌, ◌≤◌, if◌then◌else◌, List, [], ◌∷◌, length, map, drop, slice_index}
use Rattle.descriptor_parse.specs.declared.field.Kind.{Kind}
use Rattle.descriptor_parse.specs.declared.field.Field.{Field}
use Rattle.descriptor_parse.specs.declared.reports.Link.{Link}
use Rattle.descriptor_parse.specs.declared.totals.Totals.{Totals}
use Rattle.descriptor_parse.specs.Readers.{is_of_report}
use Rattle.descriptor_parse.specs.representation.Totals.{first_in, no_field}

-- where the usages of each field end
abbrev pub ends_of : List Link → List ℕ
ends_of links = map (λ l. l.end) links

abbrev pub nexts_of : List Link → List ℕ
nexts_of links = map (λ l. l.next) links

-- The place of a report's first field among these, which stand from a place on.
unfoldable pub first_from : Kind → ℕ → ℕ → List Field → ℕ
first_from kind id place [] = no_field
first_from kind id place (field ∷ more) = if is_of_report kind id field then place else first_from kind id (place + 1) more

-- each field from a place on has the next one of its report
abbrev pub HaveNext : ℕ → List Field → List Link → Type 0
HaveNext place fields links = (i : ℕ) (field : Field) (more : List Field) → place ≤ i → drop i fields ≡ field ∷ more
    → slice_index (nexts_of links) i ≡ first_from field.kind field.id (i + 1) more

pub record AreLinked (fields : List Field) (links : List Link) : Type 0 where
  pub few : length fields ≤ 256
  pub as_many : length links ≡ length fields
  pub nexts : HaveNext 0 fields links

-- the table has the first field of each report
abbrev pub HasFirst : Totals → ℕ → List Field → Type 0
HasFirst totals place fields = (kind : Kind) (id : ℕ) → first_in totals kind id ≡ first_from kind id place fields
