-- Representation: how the usages of all fields stand in one list.
use Rattle.std.specs.Prelude.{◌≡◌, ℕ, ◌≤◌, List, [], ◌∷◌, take, drop}

-- A list in parts, of which each goes on to its end.
unfoldable pub parts_from : ℕ → List ℕ → List (ℕ × ℕ) → List (List (ℕ × ℕ))
parts_from start [] ranges = []
parts_from start (end ∷ ends) ranges = drop start (take end ranges) ∷ parts_from end ends ranges

abbrev pub parts : List ℕ → List (ℕ × ℕ) → List (List (ℕ × ℕ))
parts ends ranges = parts_from 0 ends ranges

-- the ends rise from a start to the end of a list of this length
abbrev pub AreEnds : ℕ → List ℕ → ℕ → Type 0
AreEnds start [] len = start ≡ len
AreEnds start (end ∷ ends) len = (start ≤ end) × AreEnds end ends len
