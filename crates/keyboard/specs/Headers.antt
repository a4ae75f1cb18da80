-- Trusted: where a header comes from.
use Rattle.shapes.specs.Shapes.{Bytes}
use Rattle.std.specs.Prelude.{◌≡◌, ℕ, ◌<◌, List, length, slice_get, Some}
use Rattle.records.specs.declared.Slot.TheVariants.{Good}
use Rattle.records.specs.Slots.{slot_of}
use Rattle.flash_model.specs.Image.{IsImage, slot_at, page_count}
use Rattle.flash_model.specs.Operations.{OneSlot}
use Rattle.layers.specs.Codes.{DefaultCodes}
use Rattle.layers.specs.declared.command.Command.{Command}
use Rattle.page_turnover.specs.declared.operation.Operation.TheVariants.{Program}
use Rattle.page_turnover.specs.Header.{HasHeader, header_word}
use Rattle.page_turnover.specs.Turn.{target_page, next_seq}
use Rattle.page_turnover.specs.Words.{HasRoom}
use Rattle.keymap_store.specs.Next.{all_copies}
use Rattle.keymap_store.specs.Operations.{operations_of}
use Rattle.keyboard.specs.Bounded.{accepted_image, steps_since}
use Rattle.keyboard.specs.Calls.{Call, image_after, keymap}
use Rattle.keyboard.specs.Commands.{working}
use Rattle.keyboard.specs.Operated.{HoldsFirst}

module _ (defaults : DefaultCodes) where
  -- the header of a page is the one that the step had to write: the operation that is next for the command at work programs it,
  -- where there is no room, into slot 0 of the page after the active one, which holds all copies; and no other slot is touched
  pub record IsOwnHeader (start : Bytes) (before : List Call) (page : ℕ) (new : Bytes) : Type 0 where
    pub command : Command
    pub works_on : working defaults start before ≡ Some command
    pub operation : slice_get (operations_of defaults (accepted_image start before) command) (steps_since before) ≡ Some (Program page 0 (header_word 2 (next_seq (image_after start before))))
    pub target : page ≡ target_page (image_after start before)
    pub no_room : HasRoom (image_after start before) → ⊥
    pub all_copied : HoldsFirst defaults (image_after start before) (length (all_copies defaults (keymap defaults (image_after start before))))
    pub header : slot_of (slot_at new page 0) ≡ Good (header_word 2 (next_seq (image_after start before)))
    pub only : OneSlot (image_after start before) page 0 new

  -- a header stood there before, with these very bytes, or it is the one that the step had to write
  pub data ComesBy (start : Bytes) (before : List Call) (page : ℕ) (new : Bytes) : Type 0 where
    stood : slot_at new page 0 ≡ slot_at (image_after start before) page 0 → ComesBy start before page new
    is_own : IsOwnHeader start before page new → ComesBy start before page new

  -- each header after a step came so
  abbrev pub OwnHeaders : Bytes → List Call → Bytes → Type 0
  OwnHeaders start before new =
      IsImage (image_after start before) → IsImage new → (page seq : ℕ) → page < page_count new → HasHeader new page seq → ComesBy start before page new
