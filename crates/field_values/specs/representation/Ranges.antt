-- Representation: ranges of usages.
use Rattle.std.specs.Prelude.{ℕ, ◌<◌, ◌⊎◌, List, length, slice_index_or}

-- no range before one has a usage
abbrev pub AreWithout : List (ℕ × ℕ) → ℕ → ℕ → Type 0
AreWithout ranges usage from =
    (range : ℕ) → range < from → range < length ranges
    → (usage < (slice_index_or ranges range (0, 0)).0) ⊎ ((slice_index_or ranges range (0, 0)).1 < usage)
