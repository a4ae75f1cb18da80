-- Representation: from where on a usage is looked for.
use Rattle.std.specs.Prelude.{◌≡◌, ℕ, ◌-◌, ◌/◌, ◌%◌, ◌<◌, ◌≤◌, if◌then◌else◌, nat_lt, min, max, List, length, slice_get, slice_index_or, Some}
use Rattle.descriptor_parse.specs.Descriptor.{DescriptorValue, ranges_at}
use Rattle.report_write.specs.declared.kept.Kept.{Kept}

-- two slots of a usage in a table, one in each half; its last slot is of all
abbrev pub near : ℕ → ℕ → ℕ
near usage len = usage % ((len - 1) / 2)

abbrev pub far : ℕ → ℕ → ℕ
far usage len = len - 2 - usage / 7 % ((len - 1) / 2)

-- the number that a table has of a usage; an empty one has 0
abbrev pub least_of : List ℕ → ℕ → ℕ
least_of slots usage =
    if nat_lt (length slots) 3 then 0
    else min (max (slice_index_or slots (near usage (length slots)) 0) (slice_index_or slots (far usage (length slots)) 0)) (slice_index_or slots (length slots - 1) 0)

-- a range has a usage
pub record IsIn (ranges : List (ℕ × ℕ)) (range usage : ℕ) : Type 0 where
  pub within : range < length ranges
  pub least : (slice_index_or ranges range (0, 0)).0 ≤ usage
  pub most : usage ≤ (slice_index_or ranges range (0, 0)).1

-- no range before one has a usage
abbrev pub IsFrom : List (ℕ × ℕ) → ℕ → ℕ → Type 0
IsFrom ranges usage from = (range : ℕ) → IsIn ranges range usage → from ≤ range

-- no field of a report before one has a usage, and none has it in a range before one
abbrev pub AreFrom : DescriptorValue → List Kept → ℕ → ℕ → ℕ → Type 0
AreFrom d kept usage field from =
    (number : ℕ) (k : Kept) (range : ℕ) → slice_get kept number ≡ Some k → IsIn (ranges_at d k.number) range usage → (field ≤ number) × (from ≤ range)

-- of each usage of the first fields two tables have at most the place of the field, and that of the range
abbrev pub AreHints : DescriptorValue → List Kept → List ℕ → List ℕ → ℕ → Type 0
AreHints d kept fields ranges count =
    (number : ℕ) (k : Kept) (range usage : ℕ) → number < count → slice_get kept number ≡ Some k → IsIn (ranges_at d k.number) range usage
    → (least_of fields usage ≤ number) × (least_of ranges usage ≤ range)
