-- Trusted: whether anything may be written.
use Rattle.shapes.specs.Shapes.{Bytes}
use Rattle.std.specs.Prelude.{ℕ, ◌<◌}
use Rattle.records.specs.Slots.{IsSound}
use Rattle.flash_model.specs.Image.{slot_at, page_count}

-- slot 0 of each of the first n pages is sound
pub record IsSoundBelow (image : Bytes) (n : ℕ) : Type 0 where
  pub sound : (p : ℕ) → p < n → IsSound (slot_at image p 0)

-- slot 0 of each page is sound
abbrev pub IsUsable : Bytes → Type 0
IsUsable image = IsSoundBelow image (page_count image)

-- the lowest page whose slot 0 is not sound
pub record IsFirstUnsound (image : Bytes) (page : ℕ) : Type 0 where
  pub in_pages : page < page_count image
  pub unsound : IsSound (slot_at image page 0) → ⊥
  pub below : IsSoundBelow image page
