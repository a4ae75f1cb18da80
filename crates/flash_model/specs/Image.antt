-- Trusted: the bytes of a flash by pages and slots.
use Rattle.shapes.specs.Shapes.{Bytes}
use Rattle.std.specs.Prelude.{◌≡◌, ℕ, ◌+◌, ◌*◌, ◌/◌, ◌<◌, ◌≤◌, length, take, drop, slice_index}
use Rattle.flash_model.specs.declared.TheConstants.{PAGE_BYTES, SLOT_BYTES}

-- pages, one after the other
abbrev pub page_count : Bytes → ℕ
page_count image = length image / PAGE_BYTES

-- the first byte of a slot
abbrev pub place_of : ℕ → ℕ → ℕ
place_of page slot = PAGE_BYTES * page + SLOT_BYTES * slot

-- the bytes of a slot
unfoldable pub slot_at : Bytes → ℕ → ℕ → Bytes
slot_at image page slot = take SLOT_BYTES (drop (place_of page slot) image)

-- the bytes of 2 to 8 whole pages
pub record IsImage (image : Bytes) : Type 0 where
  pub whole : length image ≡ PAGE_BYTES * page_count image
  pub least : 2 ≤ page_count image
  pub most : page_count image ≤ 8
  pub bytes : (k : ℕ) → slice_index image k < 256
