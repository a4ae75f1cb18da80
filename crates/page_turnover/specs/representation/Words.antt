-- Representation: words from a slot on.
use Rattle.shapes.specs.Shapes.{Bytes, SlotWords}
use Rattle.std.specs.Prelude.{ℕ, suc, zero, [], ◌++◌}
use Rattle.records.specs.Slots.{slot_of}
use Rattle.flash_model.specs.Image.{slot_at}
use Rattle.page_turnover.specs.Words.{word_of}

-- the Good words of n slots from one on
unfoldable pub words_after : Bytes → ℕ → ℕ → ℕ → SlotWords
words_after image page slot zero = []
words_after image page slot (suc n) = word_of (slot_of (slot_at image page slot)) ++ words_after image page (suc slot) n
