-- Trusted: what one operation of a log does to the flash, whatever it is for.
use Rattle.shapes.specs.Shapes.{Bytes}
use Rattle.std.specs.Prelude.{◌≡◌, ℕ, ◌<◌, ◌^◌, Some}
use Rattle.records.specs.declared.Slot.TheVariants.{Free}
use Rattle.records.specs.Slots.{encoded, slot_of}
use Rattle.flash_model.specs.declared.TheConstants.{PAGE_SLOTS}
use Rattle.flash_model.specs.Image.{slot_at, page_count}
use Rattle.flash_model.specs.Operations.{Programs, MayProgram, Erases, MayErase}
use Rattle.page_turnover.specs.Active.{active}
use Rattle.page_turnover.specs.Usable.{IsUsable}

-- while all slots 0 are sound, a word of 32 bits is programmed into a Free slot, or a page that is not the active one is erased
pub data Operates (old new : Bytes) : Type 0 where
  programs : IsUsable old → (page slot word : ℕ) → page < page_count old → slot < PAGE_SLOTS → word < 2 ^ 32 → slot_of (slot_at old page slot) ≡ Free → Programs old page slot (encoded word) new → Operates old new
  erases : IsUsable old → (page : ℕ) → page < page_count old → ((seq : ℕ) → active old ≡ Some (page, seq) → ⊥) → Erases old page new → Operates old new

-- the same, where the operation is torn
pub data MayOperate (old new : Bytes) : Type 0 where
  may_program : IsUsable old → (page slot word : ℕ) → page < page_count old → slot < PAGE_SLOTS → word < 2 ^ 32 → slot_of (slot_at old page slot) ≡ Free → MayProgram old page slot (encoded word) new → MayOperate old new
  may_erase : IsUsable old → (page : ℕ) → page < page_count old → ((seq : ℕ) → active old ≡ Some (page, seq) → ⊥) → MayErase old page new → MayOperate old new

-- at most one slot of the active page is another one than before
pub record FillsAtMostOne (old new : Bytes) : Type 0 where
  pub slot : ℕ
  pub others : (page seq s : ℕ) → active old ≡ Some (page, seq) → s < PAGE_SLOTS → (s ≡ slot → ⊥) → slot_at new page s ≡ slot_at old page s
