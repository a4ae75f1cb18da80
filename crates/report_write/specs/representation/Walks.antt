-- Representation: places that are found by a walk over the ranges of a Variable field.
use Rattle.shapes.specs.Shapes.{UsageList}
use Rattle.std.specs.Prelude.{◌≡◌, ◌≢◌, ℕ, ◌+◌, ◌-◌, ◌<◌, ◌≤◌, ◌==◌, ◌⊎◌, not, List, length, take, slice_index_or, Option, Some, None}
use Rattle.descriptor_parse.specs.declared.field.Field.{Field}
use Rattle.descriptor_parse.specs.Descriptor.{usage_list, usage_of_place}
use Rattle.report_write.specs.Controls.{is_usage}

-- how many usages stand before a range
abbrev pub before : List (ℕ × ℕ) → ℕ → ℕ
before ranges range = length (usage_list (take range ranges))

-- a place to which a range gives a usage
pub record IsOwn (field : Field) (ranges : List (ℕ × ℕ)) (range usage place : ℕ) : Type 0 where
  pub least : (slice_index_or ranges range (0, 0)).0 ≤ usage
  pub most : usage ≤ (slice_index_or ranges range (0, 0)).1
  pub here : place ≡ before ranges range + (usage - (slice_index_or ranges range (0, 0)).0)
  pub within : place < field.count

-- the place to which a range gives a usage, or none: the range does not have it, or has it past the last place
abbrev pub IsPlaceOf : Field → List (ℕ × ℕ) → ℕ → ℕ → Option ℕ → Type 0
IsPlaceOf field ranges range usage (Some place) = IsOwn field ranges range usage place
IsPlaceOf field ranges range usage None =
    (usage < (slice_index_or ranges range (0, 0)).0)
    ⊎ (((slice_index_or ranges range (0, 0)).1 < usage) ⊎ (field.count ≤ before ranges range + (usage - (slice_index_or ranges range (0, 0)).0)))

-- so many places past the list have a usage: all of them or none
pub record AreServed (field : Field) (usages : UsageList) (usage served : ℕ) : Type 0 where
  pub all : served ≢ 0 → length usages + served ≡ field.count
  pub each : (place : ℕ) → length usages ≤ place → place < field.count → is_usage usage (usage_of_place field usages place) ≡ not (served == 0)
