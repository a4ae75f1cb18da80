-- Representation: how the counts of all fields stand in one list.
use Rattle.std.specs.Prelude.{◌≡◌, ℕ, ◌+◌, ◌-◌, ◌%◌, ◌^◌, List, [], ◌∷◌, length, take, drop}
use Rattle.descriptor_parse.specs.Counts.{AreCounts}
use Rattle.descriptor_parse.specs.representation.Parts.{AreEnds}

-- the number of usages with those of a range more, in 32 bits
abbrev pub count_with : ℕ → ℕ × ℕ → ℕ
count_with count range = ((count + (range.1 + (2 ^ 32 - range.0)) % 2 ^ 32) % 2 ^ 32 + 1) % 2 ^ 32

-- those after each range, in 32 bits
unfoldable pub wrapped_counts : ℕ → List (ℕ × ℕ) → List ℕ
wrapped_counts count [] = []
wrapped_counts count (range ∷ ranges) = count_with count range ∷ wrapped_counts (count_with count range) ranges

-- those of each part of the ranges stand at the same places
abbrev pub AreWrapped : ℕ → List ℕ → List (ℕ × ℕ) → List ℕ → Type 0
AreWrapped start [] ranges counts = Unit
AreWrapped start (end ∷ ends) ranges counts = (drop start (take end counts) ≡ wrapped_counts 0 (drop start (take end ranges))) × AreWrapped end ends ranges counts

abbrev pub AreCountsFrom : ℕ → List ℕ → List (ℕ × ℕ) → List ℕ → Type 0
AreCountsFrom start [] ranges counts = Unit
AreCountsFrom start (end ∷ ends) ranges counts = AreCounts (drop start (take end ranges)) (drop start (take end counts)) × AreCountsFrom end ends ranges counts

-- The ranges of all fields and their counts stand side by side, each field's up to its end.
pub record RefineTogether (start : ℕ) (ends : List ℕ) (ranges : List (ℕ × ℕ)) (counts : List ℕ) : Type 0 where
  pub rising : AreEnds start ends (length ranges)
  pub as_many : length counts ≡ length ranges
  pub counted : AreCountsFrom start ends ranges counts
