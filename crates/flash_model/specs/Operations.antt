-- Trusted: what a program or an erase does to a flash, whole or torn.
use Rattle.shapes.specs.Shapes.{Bytes}
use Rattle.std.specs.Prelude.{◌≡◌, ℕ, ◌<◌, length, slice_index, bit_and, replicate}
use Rattle.flash_model.specs.declared.TheConstants.{PAGE_SLOTS, SLOT_BYTES}
use Rattle.flash_model.specs.Image.{slot_at}
use Rattle.flash_model.specs.Torn.{ProgramMayLeave, EraseMayLeave}

-- no other slot is touched
pub record OneSlot (old : Bytes) (page slot : ℕ) (new : Bytes) : Type 0 where
  pub same_length : length new ≡ length old
  pub others : (p s : ℕ) → s < PAGE_SLOTS → (p ≡ page → s ≡ slot → ⊥) → slot_at new p s ≡ slot_at old p s

-- a program: each byte of the slot is what it was, AND the byte programmed
pub record Programs (old : Bytes) (page slot : ℕ) (programmed : Bytes) (new : Bytes) : Type 0 where
  pub rest : OneSlot old page slot new
  pub bytes : (k : ℕ) → k < SLOT_BYTES → slice_index (slot_at new page slot) k ≡ bit_and (slice_index (slot_at old page slot) k) (slice_index programmed k)

-- a torn program: the slot is what it was, with some of the bits cleared that the program would have cleared
pub record MayProgram (old : Bytes) (page slot : ℕ) (programmed : Bytes) (new : Bytes) : Type 0 where
  pub rest : OneSlot old page slot new
  pub torn : ProgramMayLeave (slot_at old page slot) programmed (slot_at new page slot)

-- no other page is touched
pub record OnePage (old : Bytes) (page : ℕ) (new : Bytes) : Type 0 where
  pub same_length : length new ≡ length old
  pub others : (p s : ℕ) → s < PAGE_SLOTS → (p ≡ page → ⊥) → slot_at new p s ≡ slot_at old p s

-- an erase: each byte of each slot of the page is FFh
pub record Erases (old : Bytes) (page : ℕ) (new : Bytes) : Type 0 where
  pub rest : OnePage old page new
  pub blank : (s : ℕ) → s < PAGE_SLOTS → slot_at new page s ≡ replicate SLOT_BYTES 255

-- a torn erase: each slot of the page is what it was, with some of its clear bits set
pub record MayErase (old : Bytes) (page : ℕ) (new : Bytes) : Type 0 where
  pub rest : OnePage old page new
  pub torn : (s : ℕ) → s < PAGE_SLOTS → EraseMayLeave (slot_at old page s) (slot_at new page s)
