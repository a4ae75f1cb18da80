-- Trusted: the bits of a report that are none of those from one on.
use Rattle.std.specs.Prelude.{ℕ, ◌+◌, ◌<◌, ◌≤◌, ◌⊎◌}

abbrev pub IsOutside : ℕ → ℕ → ℕ → Type 0
IsOutside from size bit = (bit < from) ⊎ (from + size ≤ bit)
