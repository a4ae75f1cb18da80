-- Trusted: the numbers of pages, and pages that something else wrote to.
use Rattle.shapes.specs.Shapes.{Bytes}
use Rattle.std.specs.Prelude.{◌≡◌, ℕ, ◌/◌, ◌%◌, ◌^◌, ◌+◌, ◌-◌, ◌<◌, ◌≤◌, ◌==◌, if◌then◌else◌, Option, Some, None}
use Rattle.records.specs.declared.Slot.{Slot}
use Rattle.records.specs.declared.Slot.TheVariants.{Free, Good, Spoiled}
use Rattle.records.specs.Slots.{slot_of, IsSound}
use Rattle.flash_model.specs.Image.{page_count, slot_at}

-- the word of a slot, if it is Good
unfoldable pub word_of : Slot → Option ℕ
word_of (Good word) = Some word
word_of Free = None
word_of Spoiled = None

-- the number that a word has as a header: 3 stands in its bits 28 to 31, and the number below them
unfoldable pub number_of : ℕ → Option ℕ
number_of word = if word / 2 ^ 28 == 3 then Some (word % 2 ^ 28) else None

-- this number, where it is one of this place among so many pages
unfoldable pub of_place : ℕ → ℕ → Option ℕ → Option ℕ
of_place pages page (Some number) = if number % pages == page then Some number else None
of_place pages page None = None

-- the number of what a slot 0 holds
unfoldable pub number_of_slot : Option ℕ → Option ℕ
number_of_slot (Some word) = number_of word
number_of_slot None = None

-- the number of a page, if slot 0 has a header of its place
unfoldable pub number_at : Bytes → ℕ → Option ℕ
number_at image page = of_place (page_count image) page (number_of_slot (word_of (slot_of (slot_at image page 0))))

-- slot 0 of a page holds a word that is no header of its place: something else wrote there
pub record IsForeign (image : Bytes) (page : ℕ) : Type 0 where
  pub in_pages : page < page_count image
  pub word : ℕ
  pub held : word_of (slot_of (slot_at image page 0)) ≡ Some word
  pub no_header : number_at image page ≡ None

-- the greatest number of the first pages
pub record IsGreatest (image : Bytes) (pages number : ℕ) : Type 0 where
  pub page : ℕ
  pub in_pages : page < pages
  pub held : number_at image page ≡ Some number
  pub greatest : (p n : ℕ) → p < pages → number_at image p ≡ Some n → n ≤ number

-- the page so many before the newest, whose number is the greatest, should count and has lost its header
pub record IsLost (image : Bytes) (newest back : ℕ) : Type 0 where
  pub is_newest : IsGreatest image (page_count image) newest
  pub near : back + 1 < page_count image
  pub early : back ≤ newest
  pub lost : number_at image ((newest - back) % page_count image) ≡ Some (newest - back) → ⊥

-- each slot 0 is sound, and no page has lost its header that should count
pub record IsWhole (image : Bytes) : Type 0 where
  pub sound : (page : ℕ) → page < page_count image → IsSound (slot_at image page 0)
  pub kept : (newest back : ℕ) → IsLost image newest back → ⊥
