-- Trusted: the layouts of the reports, said of each bit and place.
use Rattle.shapes.specs.Shapes.{Bytes, UsageList}
use Rattle.std.specs.Prelude.{◌≡◌, ℕ, ◌+◌, ◌-◌, ◌*◌, ◌/◌, ◌%◌, ◌<◌, ◌≤◌, ◌↔◌, Bool, true, length, Contains, slice_index, if◌then◌else◌}
use Rattle.std.specs.Int.{bit_at}
use Rattle.std.specs.List.Sorted.{IsStrictlyIncreasing}
use Rattle.reports.specs.Wanted.{members, listed, consumer_listed}

-- the usages of a set that a boot report has to list, each once, rising
pub record AreListed (keys : ℕ → Bool) (usages : UsageList) : Type 0 where
  pub rising : IsStrictlyIncreasing usages
  pub members : (u : ℕ) → Contains usages u ↔ ((4 ≤ u) × (u ≤ 164) × (keys u ≡ true))

-- how many usages a boot report has to list
abbrev pub listed_count : (ℕ → Bool) → ℕ
listed_count keys = length (listed keys)

-- how many of them are less than u
abbrev pub listed_below : (ℕ → Bool) → ℕ → ℕ
listed_below keys u = length (members keys 4 (u - 4))

-- 1 for a bit that is set
abbrev pub bit_of : Bool → ℕ
bit_of b = if b then 1 else 0

-- bit b of all bytes after the first, counted from the least significant bit of each
abbrev pub bit_after_id : Bytes → ℕ → ℕ
bit_after_id bytes b = bit_at (slice_index bytes (1 + b / 8)) (b % 8)

-- the boot keyboard's input report (HID 1.11 appendix B.1)
pub record IsBootReport (keys : ℕ → Bool) (bytes : Bytes) : Type 0 where
  pub size : length bytes ≡ 8
  pub modifiers : (i : ℕ) → i < 8 → bit_at (slice_index bytes 0) i ≡ bit_of (keys (224 + i))
  pub reserved : slice_index bytes 1 ≡ 0
  -- a usage with p lesser ones stands in place p
  pub rising : listed_count keys ≤ 6
      → (u : ℕ) → 4 ≤ u → u ≤ 164 → keys u ≡ true → slice_index bytes (2 + listed_below keys u) ≡ u
  pub zeros : listed_count keys ≤ 6
      → (p : ℕ) → listed_count keys ≤ p → p < 6 → slice_index bytes (2 + p) ≡ 0
  pub overflow : 6 < listed_count keys → (p : ℕ) → p < 6 → slice_index bytes (2 + p) ≡ 1

-- the input report of ID 1
pub record IsBitmapReport (keys : ℕ → Bool) (bytes : Bytes) : Type 0 where
  pub size : length bytes ≡ 23
  pub id : slice_index bytes 0 ≡ 1
  pub modifiers : (i : ℕ) → i < 8 → bit_after_id bytes i ≡ bit_of (keys (224 + i))
  pub usages : (u : ℕ) → 4 ≤ u → u ≤ 164 → bit_after_id bytes (8 + (u - 4)) ≡ bit_of (keys u)
  pub padding : (b : ℕ) → 169 ≤ b → b < 176 → bit_after_id bytes b ≡ 0

-- how many consumer usages there are to list
abbrev pub consumer_count : (ℕ → Bool) → ℕ
consumer_count consumer = length (consumer_listed consumer)

-- how many of them are less than u
abbrev pub consumer_below : (ℕ → Bool) → ℕ → ℕ
consumer_below consumer u = length (members consumer 1 (u - 1))

-- the number of two bytes in place p after the ID, the low byte first
abbrev pub word_after_id : Bytes → ℕ → ℕ
word_after_id bytes p = slice_index bytes (1 + 2 * p) + 256 * slice_index bytes (2 + 2 * p)

-- the input report of ID 2
pub record IsConsumerReport (consumer : ℕ → Bool) (bytes : Bytes) : Type 0 where
  pub size : length bytes ≡ 9
  pub id : slice_index bytes 0 ≡ 2
  -- a usage with p lesser ones stands in place p, where there is such a place
  pub rising : (u : ℕ) → 1 ≤ u → u ≤ 1023 → consumer u ≡ true → consumer_below consumer u < 4
      → word_after_id bytes (consumer_below consumer u) ≡ u
  pub zeros : (p : ℕ) → consumer_count consumer ≤ p → p < 4 → word_after_id bytes p ≡ 0
