-- Representation: the usages of a list.
use Rattle.shapes.specs.Shapes.{UsageList}
use Rattle.std.specs.Prelude.{ℕ, ◌==◌, Bool, [], ◌∷◌, Option, Some, None}
use Rattle.std.specs.List.{list_any}

-- a list has a usage
abbrev pub is_listed : UsageList → ℕ → Bool
is_listed usages usage = list_any (λ other. other == usage) usages

-- what there is of a usage
abbrev pub listed : Option ℕ → UsageList
listed None = []
listed (Some usage) = usage ∷ []
