-- Trusted: what an operation leaves that is torn by a mask.
use Rattle.shapes.specs.Shapes.{Bytes}
use Rattle.std.specs.Prelude.{◌≡◌, ℕ, ◌+◌, ◌*◌, ◌%◌, ◌<◌, ◌≤◌, ◌==◌, if◌then◌else◌, length, slice_index, bit_and, bit_or}
use Rattle.std.specs.Int.{bit_not, w8}
use Rattle.flash_model.specs.declared.TheConstants.{PAGE_BYTES, PAGE_SLOTS, SLOT_BYTES}
use Rattle.flash_model.specs.Image.{slot_at}
use Rattle.flash_model.specs.Operations.{OneSlot, OnePage}

-- a mask says which bits of an operation take effect: those that are set
pub record IsMask (mask : Bytes) : Type 0 where
  pub most : length mask ≤ PAGE_BYTES
  pub bytes : (k : ℕ) → slice_index mask k < 256

-- what it says of byte i of the operation: the mask is repeated as often as need be, and an empty one is zeros
abbrev pub mask_byte : Bytes → ℕ → ℕ
mask_byte mask i = if length mask == 0 then 0 else slice_index mask (i % length mask)

-- a program torn by a mask: each byte of the slot is what it was, AND the byte programmed or what the mask leaves out
pub record ProgramsByMask (old : Bytes) (page slot : ℕ) (programmed mask new : Bytes) : Type 0 where
  pub rest : OneSlot old page slot new
  pub bytes : (k : ℕ) → k < SLOT_BYTES → slice_index (slot_at new page slot) k ≡ bit_and (slice_index (slot_at old page slot) k) (bit_or (slice_index programmed k) (bit_not w8 (mask_byte mask k)))

-- an erase torn by a mask: each byte of the page is what it was, OR the mask's
pub record ErasesByMask (old : Bytes) (page : ℕ) (mask new : Bytes) : Type 0 where
  pub rest : OnePage old page new
  pub bytes : (s k : ℕ) → s < PAGE_SLOTS → k < SLOT_BYTES → slice_index (slot_at new page s) k ≡ bit_or (slice_index (slot_at old page s) k) (mask_byte mask (SLOT_BYTES * s + k))
