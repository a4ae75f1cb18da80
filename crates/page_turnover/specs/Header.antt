-- Trusted: the headers of pages.
use Rattle.shapes.specs.Shapes.{Bytes}
use Rattle.std.specs.Prelude.{◌≡◌, ℕ, ◌+◌, ◌*◌, ◌/◌, ◌%◌, ◌^◌, ◌<◌, ◌==◌, ◌||◌, ◌⊎◌, if◌then◌else◌, Option, Some, None}
use Rattle.records.specs.declared.Slot.{Slot}
use Rattle.records.specs.declared.Slot.TheVariants.{Free, Good, Spoiled}
use Rattle.records.specs.Slots.{slot_of}
use Rattle.flash_model.specs.Image.{slot_at}

-- pages of two formats are read; those written are of format 2
abbrev pub IsFormat : ℕ → Type 0
IsFormat format = (format ≡ 1) ⊎ (format ≡ 2)

-- the word of the header of this format with this sequence number, which has 28 bits
unfoldable pub header_word : ℕ → ℕ → ℕ
header_word format seq = format * 2 ^ 28 + seq

-- slot 0 of a page is Good with a header of this sequence number, of either format
pub record HasHeader (image : Bytes) (page seq : ℕ) : Type 0 where
  pub format : ℕ
  pub known : IsFormat format
  pub bits : seq < 2 ^ 28
  pub good : slot_of (slot_at image page 0) ≡ Good (header_word format seq)

-- the sequence number that a slot has as a header, if it is one
unfoldable pub header_of : Slot → Option ℕ
header_of (Good word) = if (word / 2 ^ 28 == 1) || (word / 2 ^ 28 == 2) then Some (word % 2 ^ 28) else None
header_of Free = None
header_of Spoiled = None

-- the format that a slot has as a header
unfoldable pub format_of : Slot → ℕ
format_of (Good word) = word / 2 ^ 28
format_of Free = 0
format_of Spoiled = 0
