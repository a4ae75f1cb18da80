-- Trusted: what a write unit of eight bytes may read as, and how two of them hold one word.
use Rattle.shapes.specs.Shapes.{Bytes}
use Rattle.std.specs.Prelude.{◌≡◌, ℕ, ◌+◌, ◌%◌, ◌<◌, ◌≤◌, length, slice_index, bit_xor}
use Rattle.std.specs.Int.{bit_at}

-- read has each bit that is set in meant, but for one at most
pub record Lacks (meant read : Bytes) : Type 0 where
  pub byte : ℕ
  pub bit : ℕ
  pub others : (k i : ℕ) → (k ≡ byte → i ≡ bit → ⊥) → bit_at (slice_index meant k) i ≤ bit_at (slice_index read k) i

-- eight bytes
pub record IsEight (bytes : Bytes) : Type 0 where
  pub eight : length bytes ≡ 8
  pub each : (k : ℕ) → slice_index bytes k < 256

-- four bytes and their complements
pub record IsPair (unit : Bytes) : Type 0 where
  pub eight : IsEight unit
  pub pairs : (k : ℕ) → k < 4 → slice_index unit k + slice_index unit (k + 4) ≡ 255

-- the check of a word: each byte of it, XOR the byte before it, and the first byte with the last
abbrev pub IsCheckOf : Bytes → Bytes → Type 0
IsCheckOf word check = (k : ℕ) → k < 4 → slice_index check k ≡ bit_xor (slice_index word k) (slice_index word ((k + 3) % 4))
