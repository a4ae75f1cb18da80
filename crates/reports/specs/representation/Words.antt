-- Representation: a report as words of four bytes, the first byte in the low bits.
use Rattle.std.specs.Prelude.{◌≡◌, ℕ, ◌*◌, ◌/◌, ◌%◌, ◌^◌, ◌<◌, ◌≤◌, List, length, map, slice_index}
use Rattle.std.specs.List.{range_with_len}

-- byte k of words
abbrev pub byte_at : List ℕ → ℕ → ℕ
byte_at words k = slice_index words (k / 4) / 2 ^ (8 * (k % 4)) % 256

-- the first n bytes of words
unfoldable pub first_bytes : List ℕ → ℕ → List ℕ
first_bytes words n = map (byte_at words) (range_with_len 0 n)

-- six words have n bytes, and then zeros
pub record EndsAt (words : List ℕ) (n : ℕ) : Type 0 where
  pub six : length words ≡ 6
  pub zeros : (k : ℕ) → n ≤ k → k < 24 → byte_at words k ≡ 0

-- a word has these bytes
pub record Packs (word a b c d : ℕ) : Type 0 where
  pub p0 : word / 2 ^ 0 % 256 ≡ a
  pub p1 : word / 2 ^ 8 % 256 ≡ b
  pub p2 : word / 2 ^ 16 % 256 ≡ c
  pub p3 : word / 2 ^ 24 % 256 ≡ d
