-- Representation: what the private parts of a step owe each other; what a step guarantees is in Steps.
use Rattle.shapes.specs.Shapes.{Bytes}
use Rattle.std.specs.Prelude.{◌≡◌, ℕ, ◌+◌, ◌%◌, ◌^◌, ◌<◌, ◌⊎◌, Bool, true, false}
use Rattle.records.specs.declared.Slot.TheVariants.{Free}
use Rattle.records.specs.Slots.{slot_of}
use Rattle.flash_model.specs.declared.TheConstants.{PAGE_SLOTS}
use Rattle.flash_model.specs.Image.{page_count, slot_at}
use Rattle.page_turnover.specs.declared.log.ActivePage.{ActivePage}
use Rattle.page_turnover.specs.declared.operation.Operation.{Operation}
use Rattle.page_turnover.specs.declared.operation.Operation.TheVariants.{Program, Erase}
use Rattle.page_turnover.specs.Next.{Makes, MayMake, ReadsBack}

-- an operation is within the flash, and programs only a Free slot
abbrev pub CanMake : Bytes → Operation → Type 0
CanMake image (Program page slot word) = (page < page_count image) × (slot < PAGE_SLOTS) × (word < 2 ^ 32) × (slot_of (slot_at image page slot) ≡ Free)
CanMake image (Erase page) = page < page_count image

-- whole and read as intended, or torn and read otherwise
abbrev pub IsMade : Bytes → Operation → Bool → Bytes → Type 0
IsMade old operation true new = Makes old operation new × ReadsBack operation new
IsMade old operation false new = MayMake old operation new × (ReadsBack operation new → ⊥)

-- a fault is counted, also where the operation reads as intended
abbrev pub RaisesFaults : Bool → ℕ → ℕ → Type 0
RaisesFaults true faults after = (after ≡ faults) ⊎ (after ≡ (faults + 1) % 2 ^ 64)
RaisesFaults false faults after = after ≡ (faults + 1) % 2 ^ 64

-- the active page after a fault: a tail slot that is no longer Free is used up
pub record IsPassedOver (image : Bytes) (before after : ActivePage) : Type 0 where
  pub page_is : after.page ≡ before.page
  pub seq_is : after.seq ≡ before.seq
  pub format_is : after.format ≡ before.format
  pub free : before.tail < PAGE_SLOTS → slot_of (slot_at image before.page before.tail) ≡ Free → after.tail ≡ before.tail
  pub used : before.tail < PAGE_SLOTS → (slot_of (slot_at image before.page before.tail) ≡ Free → ⊥) → after.tail ≡ before.tail + 1
  pub full : (before.tail < PAGE_SLOTS → ⊥) → after.tail ≡ before.tail
