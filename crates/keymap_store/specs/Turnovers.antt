-- Trusted: what the operations of a store do to the active page.
use Rattle.shapes.specs.Shapes.{Bytes}
use Rattle.std.specs.Prelude.{◌≡◌, ℕ, suc, ◌<◌, Some}
use Rattle.layers.specs.Codes.{DefaultCodes}
use Rattle.layers.specs.Copies.{AreCopies, places}
use Rattle.flash_model.specs.declared.TheConstants.{PAGE_SLOTS}
use Rattle.flash_model.specs.Image.{slot_at}
use Rattle.flash_model.specs.Operations.{OnePage}
use Rattle.page_turnover.specs.Active.{active, format}
use Rattle.page_turnover.specs.Words.{words, IsActiveTail, FreeFrom, HasRoom}
use Rattle.page_turnover.specs.Turn.{target_page, next_seq}
use Rattle.page_turnover.specs.Steps.{Keeps}
use Rattle.keymap_store.specs.Keymap.{entries_of}

-- words, format and active page stay, and no page but the target of a compaction is touched
pub record Prepares (old new : Bytes) : Type 0 where
  pub keeps : Keeps old new
  pub elsewhere : OnePage old (target_page old) new

module _ (defaults : DefaultCodes) where
  -- where there was no room, the page after the active one becomes the active one, with the next sequence number and in
  -- format 2; its words are those of the entries that differ from the default, by rising place, and there is room for 127 more
  pub record TurnsOver (old new : Bytes) : Type 0 where
    pub no_room : HasRoom old → ⊥
    pub active_is : active new ≡ Some (target_page old, next_seq old)
    pub format_is : format new ≡ Some 2
    pub copies : AreCopies defaults (entries_of defaults old) places (words new)
    pub free : FreeFrom new (target_page old) 385
    pub elsewhere : OnePage old (target_page old) new

  -- a step of a compaction
  pub data Turns (old new : Bytes) : Type 0 where
    stays : Prepares old new → Turns old new
    turns : TurnsOver old new → Turns old new

-- no slot of the active page is touched, which stays the active one
pub record Spares (old new : Bytes) : Type 0 where
  pub active_is : active new ≡ active old
  pub format_is : format new ≡ format old
  pub same : (page seq s : ℕ) → active old ≡ Some (page, seq) → s < PAGE_SLOTS → slot_at new page s ≡ slot_at old page s

-- of the active page, which stays the active one, no slot but its tail is touched
pub record Fills (old new : Bytes) : Type 0 where
  pub active_is : active new ≡ active old
  pub format_is : format new ≡ format old
  pub same : (page tail s : ℕ) → IsActiveTail old page tail → s < PAGE_SLOTS → (s ≡ tail → ⊥) → slot_at new page s ≡ slot_at old page s

module _ (defaults : DefaultCodes) where
  -- what an operation of a store, whole or torn, does to the active page
  pub data Wears (old new : Bytes) : Type 0 where
    over : TurnsOver defaults old new → Wears old new
    spares : Spares old new → Wears old new
    fills : Fills old new → Wears old new

-- operations one after another, none of which is of a compaction, and how many of them may touch the tail of the active page
pub data Follows (old : Bytes) : ℕ → Bytes → Type 0 where
  begin : Follows old 0 old
  spare : (n : ℕ) (image new : Bytes) → Follows old n image → Spares image new → Follows old n new
  fill : (n : ℕ) (image new : Bytes) → Follows old n image → Fills image new → Follows old (suc n) new
