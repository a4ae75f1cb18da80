-- Trusted: how many usages the ranges of a field have.
use Rattle.std.specs.Prelude.{◌≡◌, ℕ, ◌+◌, ◌<◌, List, length, take, slice_index}
use Rattle.descriptor_parse.specs.Descriptor.{usage_list}

-- Beside each range stands how many usages the ranges up to it have.
abbrev pub AreCounts : List (ℕ × ℕ) → List ℕ → Type 0
AreCounts ranges counts = (length counts ≡ length ranges) × ((i : ℕ) → i < length ranges → slice_index counts i ≡ length (usage_list (take (i + 1) ranges)))
