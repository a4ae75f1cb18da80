-- Trusted: whether a page is blank, as a test.
use Rattle.shapes.specs.Shapes.{Bytes}
use Rattle.std.specs.Prelude.{ℕ, zero, suc, ◌&&◌, Bool, true}
use Rattle.records.specs.Slots.{slot_of}
use Rattle.records.specs.Blocks.{is_free}
use Rattle.flash_model.specs.declared.TheConstants.{PAGE_SLOTS}
use Rattle.flash_model.specs.Image.{slot_at}

-- whether each of the first n slots of a page is Free
unfoldable pub is_free_below : Bytes → ℕ → ℕ → Bool
is_free_below image page zero = true
is_free_below image page (suc n) = is_free (slot_of (slot_at image page n)) && is_free_below image page n

-- whether each slot of a page is Free: `IsBlank` as a test
unfoldable pub is_blank : Bytes → ℕ → Bool
is_blank image page = is_free_below image page PAGE_SLOTS
