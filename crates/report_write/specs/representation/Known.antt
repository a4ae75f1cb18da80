-- Representation: what is known of the places of an Array while usages are put into it.
use Rattle.shapes.specs.Shapes.{Bytes, UsageList}
use Rattle.std.specs.Prelude.{◌≡◌, ◌⊎◌, ℕ, ◌<◌, ◌≤◌, true, false, List, slice_get, Option, Some, None}
use Rattle.descriptor_parse.specs.declared.field.Field.{Field}
use Rattle.descriptor_parse.specs.Descriptor.{DescriptorValue, ranges_at, usage_list}
use Rattle.report_write.specs.declared.kept.Kept.{Kept}
use Rattle.report_write.specs.declared.control.Control.{Control}
use Rattle.report_write.specs.declared.control.Control.TheVariants.{Place, Usage}
use Rattle.report_write.specs.Arrays.{names, is_free}
use Rattle.report_write.specs.representation.Hints.{least_of, IsFrom}

-- of each usage that one of the first places names a table has at most the place
abbrev pub AreNoted : Field → UsageList → Bytes → ℕ → List ℕ → Type 0
AreNoted field usages bytes count named =
    (place usage : ℕ) → place < count → names field usages bytes usage place ≡ true → least_of named usage ≤ place

-- no place before one is free, and a table has of each usage at most the place that names it
pub record IsKnown (field : Field) (usages : UsageList) (bytes marks : Bytes) (free : ℕ) (named : List ℕ) : Type 0 where
  pub taken : (place : ℕ) → place < free → place < field.count → is_free field usages bytes marks place ≡ false
  pub noted : AreNoted field usages bytes field.count named

-- that is known of the field of a report with a number
abbrev pub IsKnownOf : DescriptorValue → List Kept → Bytes → Bytes → Option ℕ → ℕ → List ℕ → Type 0
IsKnownOf d kept bytes marks of free named =
    (place : ℕ) (k : Kept) → slice_get kept place ≡ Some k → of ≡ Some k.number
    → IsKnown k.field (usage_list (ranges_at d k.number)) bytes marks free named

-- that is still known of a field, or nothing is
abbrev pub IsStillKnown : Field → UsageList → Bytes → Bytes → Option ℕ → Option ℕ → ℕ → List ℕ → Type 0
IsStillKnown field usages bytes marks old new free named = (new ≡ None) ⊎ ((new ≡ old) × IsKnown field usages bytes marks free named)

-- fields of one number are the same
abbrev pub AreOne : List Kept → Type 0
AreOne kept = (i j : ℕ) (one other : Kept) → slice_get kept i ≡ Some one → slice_get kept j ≡ Some other → one.number ≡ other.number → one.field ≡ other.field

-- an Array that is meant is one of the report, and no range of it before one has the usage
abbrev pub IsOfReport : DescriptorValue → List Kept → List ℕ → Control → Type 0
IsOfReport d kept ranges (Place k place) = true ≡ true
IsOfReport d kept ranges (Usage k usage) = ((i : ℕ) × (slice_get kept i ≡ Some k)) × IsFrom (ranges_at d k.number) usage (least_of ranges usage)
