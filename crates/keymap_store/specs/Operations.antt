-- Trusted: the flash operations of a command, as one list, by the flash when the command is accepted.
use Rattle.shapes.specs.Shapes.{Bytes, SlotWords}
use Rattle.std.specs.Prelude.{ℕ, zero, suc, ◌+◌, ◌==◌, ◌&&◌, if◌then◌else◌, Bool, false, Option, Some, None, List, [], ◌∷◌, ◌++◌, length}
use Rattle.records.specs.Blocks.{is_free}
use Rattle.records.specs.Slots.{slot_of}
use Rattle.flash_model.specs.Image.{slot_at}
use Rattle.layers.specs.Codes.{DefaultCodes}
use Rattle.layers.specs.Commands.{word_of}
use Rattle.layers.specs.declared.command.Command.{Command}
use Rattle.page_turnover.specs.declared.operation.Operation.{Operation}
use Rattle.page_turnover.specs.declared.operation.Operation.TheVariants.{Program, Erase}
use Rattle.page_turnover.specs.Active.{active, format}
use Rattle.page_turnover.specs.Blank.{is_blank}
use Rattle.page_turnover.specs.Header.{header_word}
use Rattle.page_turnover.specs.Turn.{target_page, next_seq}
use Rattle.keymap_store.specs.Keymap.{entries_of}
use Rattle.keymap_store.specs.Next.{all_copies}

-- one more than the greatest of the slots 1 to n of a page that is not Free; 1 where all are
unfoldable pub tail_up_to : Bytes → ℕ → ℕ → ℕ
tail_up_to image page zero = 1
tail_up_to image page (suc n) = if is_free (slot_of (slot_at image page (suc n))) then tail_up_to image page n else n + 2

-- this page, of this format, has room for a record: the format is 2, and the last slot is Free
abbrev pub has_room_on : Bytes → Option (ℕ × ℕ) → Option ℕ → Bool
has_room_on image (Some place) (Some format) = (format == 2) && is_free (slot_of (slot_at image place.0 511))
has_room_on image _ _ = false

-- the active page has: `HasRoom` as a test
unfoldable pub has_room : Bytes → Bool
has_room image = has_room_on image (active image) (format image)

-- the record goes to the tail slot of the active page
abbrev pub record_on : Bytes → Option (ℕ × ℕ) → ℕ → List Operation
record_on image (Some place) word = Program place.0 (tail_up_to image place.0 511) word ∷ []
record_on image None word = []

-- a page that is not blank is erased
unfoldable pub erase_if_used : Bytes → ℕ → List Operation
erase_if_used image page = if is_blank image page then [] else Erase page ∷ []

-- words are programmed in their order, one a slot, from this slot on
abbrev pub programs_from : ℕ → ℕ → SlotWords → List Operation
programs_from page slot [] = []
programs_from page slot (word ∷ words) = Program page slot word ∷ programs_from page (suc slot) words

-- the header goes to slot 0 of the target of a compaction, and the record to the slot after this many copies
abbrev pub header_and_record : Bytes → ℕ → ℕ → List Operation
header_and_record image copies word =
    Program (target_page image) 0 (header_word 2 (next_seq image)) ∷ Program (target_page image) (suc copies) word ∷ []

-- a compaction, and the record after it: the target is erased, where it is not blank; the entries that differ from the default are
-- copied, by rising place; the header comes after them
abbrev pub turn_and_record : Bytes → SlotWords → ℕ → List Operation
turn_and_record image copies word =
    erase_if_used image (target_page image) ++ (programs_from (target_page image) 1 copies ++ header_and_record image (length copies) word)

module _ (defaults : DefaultCodes) where
  -- with room the record alone; else a compaction before it
  unfoldable pub operations_of : Bytes → Command → List Operation
  operations_of image command =
      if has_room image then record_on image (active image) (word_of command)
      else turn_and_record image (all_copies defaults (entries_of defaults image)) (word_of command)
