-- Trusted: what a slot of eight bytes says.
use Rattle.shapes.specs.Shapes.{Bytes}
use Rattle.std.specs.Prelude.{◌≡◌, ℕ, ◌+◌, ◌-◌, ◌<◌, ◌≤◌, ◌^◌, ◌==◌, ◌&&◌, if◌then◌else◌, ◌++◌, length, take, drop, slice_index}
use Rattle.std.specs.Int.{to_le_bytes, from_le_bytes, bit_at, bit_not, w32}
use Rattle.records.specs.declared.Slot.{Slot}
use Rattle.records.specs.declared.Slot.TheVariants.{Free, Good, Spoiled}

-- eight bytes
pub record IsSlot (bytes : Bytes) : Type 0 where
  pub eight : length bytes ≡ 8
  pub each : (k : ℕ) → slice_index bytes k < 256

-- a word and then its complement, each with the low byte first
unfoldable pub encoded : ℕ → Bytes
encoded word = to_le_bytes w32 word ++ to_le_bytes w32 (bit_not w32 word)

-- the number in the first four bytes, and that in the last four
abbrev pub first_half : Bytes → ℕ
first_half bytes = from_le_bytes w32 (take 4 bytes)

abbrev pub second_half : Bytes → ℕ
second_half bytes = from_le_bytes w32 (drop 4 bytes)

-- Free: every bit is set. Good: the second half is the complement of the first. Spoiled: anything else
unfoldable pub slot_of : Bytes → Slot
slot_of bytes =
    if (first_half bytes == 2 ^ 32 - 1) && (second_half bytes == 2 ^ 32 - 1) then Free
    else (if second_half bytes == bit_not w32 (first_half bytes) then Good (first_half bytes) else Spoiled)

-- no bit position is clear in both bytes
abbrev pub Covers : ℕ → ℕ → Type 0
Covers a b = (i : ℕ) → i < 8 → 1 ≤ bit_at a i + bit_at b i

-- no bit position is clear in both halves
pub record IsSound (bytes : Bytes) : Type 0 where
  pub covers : (k : ℕ) → k < 4 → Covers (slice_index bytes k) (slice_index bytes (k + 4))
