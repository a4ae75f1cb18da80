-- Trusted: the words of an image, and the room for more.
use Rattle.shapes.specs.Shapes.{Bytes, SlotWords}
use Rattle.std.specs.Prelude.{◌≡◌, ℕ, ◌-◌, ◌<◌, ◌≤◌, suc, zero, [], ◌∷◌, ◌++◌, Option, Some, None}
use Rattle.records.specs.declared.Slot.{Slot}
use Rattle.records.specs.declared.Slot.TheVariants.{Free, Good, Spoiled}
use Rattle.records.specs.Slots.{slot_of}
use Rattle.flash_model.specs.declared.TheConstants.{PAGE_SLOTS}
use Rattle.flash_model.specs.Image.{slot_at}
use Rattle.page_turnover.specs.Active.{active, format}

-- the word of a slot that is Good
abbrev pub word_of : Slot → SlotWords
word_of (Good word) = word ∷ []
word_of Free = []
word_of Spoiled = []

-- the Good words of slots 1 to n of a page, in order
unfoldable pub words_up_to : Bytes → ℕ → ℕ → SlotWords
words_up_to image page zero = []
words_up_to image page (suc n) = words_up_to image page n ++ word_of (slot_of (slot_at image page (suc n)))

-- the Good words of slots 1 to 511 of this page, if there is one
abbrev pub words_on : Bytes → Option (ℕ × ℕ) → SlotWords
words_on image (Some place) = words_up_to image place.0 511
words_on image None = []

-- the words of an image: those of its active page
unfoldable pub words : Bytes → SlotWords
words image = words_on image (active image)

-- each slot from one on is Free
abbrev pub FreeFrom : Bytes → ℕ → ℕ → Type 0
FreeFrom image page slot = (s : ℕ) → slot ≤ s → s < PAGE_SLOTS → slot_of (slot_at image page s) ≡ Free

-- each slot of a page is Free
abbrev pub IsBlank : Bytes → ℕ → Type 0
IsBlank image page = FreeFrom image page 0

-- one more than the greatest slot of a page that is not Free, where slot 0 is not Free
pub record IsTail (image : Bytes) (page tail : ℕ) : Type 0 where
  pub low : 1 ≤ tail
  pub high : tail ≤ PAGE_SLOTS
  pub free : FreeFrom image page tail
  pub used : 1 < tail → slot_of (slot_at image page (tail - 1)) ≡ Free → ⊥

-- this is the active page, with this tail
pub record IsActiveTail (image : Bytes) (page tail : ℕ) : Type 0 where
  pub seq : ℕ
  pub is_active : active image ≡ Some (page, seq)
  pub is_tail : IsTail image page tail

-- there is an active page of format 2, and its last slot is Free
pub record HasRoom (image : Bytes) : Type 0 where
  pub page : ℕ
  pub seq : ℕ
  pub is_active : active image ≡ Some (page, seq)
  pub current : format image ≡ Some 2
  pub free : slot_of (slot_at image page 511) ≡ Free
