-- Trusted: the programs that a healthy flash is sure to make.
use Rattle.shapes.specs.Shapes.{Bytes}
use Rattle.std.specs.Prelude.{◌≡◌, ℕ, ◌+◌, ◌<◌, length, slice_index, replicate}
use Rattle.flash_model.specs.declared.TheConstants.{SLOT_BYTES}
use Rattle.flash_model.specs.Image.{slot_at}

-- a word of 32 bits and then its complement, each with the low byte first; bit 31 of the word is clear
pub record IsShortWord (bytes : Bytes) : Type 0 where
  pub eight : length bytes ≡ SLOT_BYTES
  pub pairs : (k : ℕ) → k < 4 → slice_index bytes k + slice_index bytes (k + 4) ≡ 255
  pub clear : slice_index bytes 3 < 128

-- such a word goes into a slot that is erased
pub record IsAssured (image : Bytes) (page slot : ℕ) (programmed : Bytes) : Type 0 where
  pub erased : slot_at image page slot ≡ replicate SLOT_BYTES 255
  pub word : IsShortWord programmed
