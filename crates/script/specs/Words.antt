-- Trusted: the words of a line.
use Rattle.shapes.specs.Shapes.{Bytes}
use Rattle.std.specs.Prelude.{ℕ, ◌==◌, ◌||◌, nat_lt, Bool, List, length, filter}
use Rattle.std.specs.List.{slice_split}

-- a space or a tab
abbrev pub is_blank : ℕ → Bool
is_blank b = (b == 32) || (b == 9)

-- what stands between the blanks of a line, from the left
unfoldable pub words : Bytes → List Bytes
words line = filter (λ w. nat_lt 0 (length w)) (slice_split is_blank line)
