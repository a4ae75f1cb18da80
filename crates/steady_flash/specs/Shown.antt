-- Trusted: what is shown of a log's pages.
use Rattle.shapes.specs.Shapes.{Bytes}
use Rattle.std.specs.Prelude.{◌≡◌, ℕ, ◌*◌, ◌/◌, ◌%◌, ◌<◌, ◌==◌, ◌&&◌, map, slice_index, if◌then◌else◌, Option, Some, None}
use Rattle.std.specs.List.{range_with_len}
use Rattle.flash_model.specs.Torn.{ProgramMayLeave}
use Rattle.flash_model.specs.declared.TheConstants.{PAGE_SLOTS}
use Rattle.steady_flash.specs.Cells.{Written, IsReading, blank}
use Rattle.steady_flash.specs.Layout.{held_at}
use Rattle.steady_flash.specs.Moves.{Holds}
use Rattle.steady_flash.specs.declared.layout.Layout.{Layout}
use Rattle.steady_flash.specs.declared.layout.Doubt.{Doubt}

-- a slot of the log: what the cells of its place hold
abbrev pub shown : (ℕ → ℕ → Written) → Layout → ℕ → ℕ → Bytes
shown slots layout page slot = (slots (held_at layout.held page).page slot).cells.least

-- no slot of the log has a cell in doubt
abbrev pub IsSettled : (ℕ → ℕ → Written) → Layout → Type 0
IsSettled slots layout = (p s : ℕ) → p < layout.pages → s < PAGE_SLOTS → Holds (slots (held_at layout.held p).page s) (shown slots layout p s)

-- the bytes of the pages, one page after the other
unfoldable pub bytes_of : (ℕ → ℕ → Bytes) → ℕ → Bytes
bytes_of slot pages = map (λ j. slice_index (slot (j / 4096) (j % 4096 / 8)) (j % 8)) (range_with_len 0 (4096 * pages))

-- the image of the log's flash
abbrev pub image_of : (ℕ → ℕ → Written) → Layout → Bytes
image_of slots layout = bytes_of (shown slots layout) layout.pages

-- what a slot of the log reads as: one whose program was given up, as it was before that
abbrev pub read_as : (ℕ → ℕ → Written) → Layout → Option Doubt → ℕ → ℕ → Bytes
read_as slots layout None = shown slots layout
read_as slots layout (Some doubt) = λ page slot. if doubt.page == page && doubt.slot == slot then blank else shown slots layout page slot

-- the image of the log's flash as it reads
abbrev pub image_as : (ℕ → ℕ → Written) → Layout → Option Doubt → Bytes
image_as slots layout doubt = bytes_of (read_as slots layout doubt) layout.pages

-- no slot of the log but this one has a cell in doubt
abbrev pub IsSettledBeside : (ℕ → ℕ → Written) → Layout → Option Doubt → Type 0
IsSettledBeside slots layout doubt = (p s : ℕ) → p < layout.pages → s < PAGE_SLOTS → (doubt ≡ Some (record { page = p; slot = s }) → ⊥) → Holds (slots (held_at layout.held p).page s) (shown slots layout p s)

-- an image in which each slot is one that the cells of its place may read as
pub record IsReadImage (slots : ℕ → ℕ → Written) (layout : Layout) (image : Bytes) : Type 0 where
  pub read : ℕ → ℕ → Bytes
  pub is_of : image ≡ bytes_of read layout.pages
  pub reads : (p s : ℕ) → p < layout.pages → s < PAGE_SLOTS → IsReading (slots (held_at layout.held p).page s).cells (read p s)

-- each slot of the log is as it was
pub record IsKept (old : ℕ → ℕ → Written) (layout : Layout) (new : ℕ → ℕ → Written) (after : Layout) : Type 0 where
  pub settled : IsSettled new after
  pub pages : after.pages ≡ layout.pages
  pub same : (p s : ℕ) → p < layout.pages → s < PAGE_SLOTS → shown new after p s ≡ shown old layout p s

-- one slot of the log has become these bytes
pub record IsChanged (old : ℕ → ℕ → Written) (layout : Layout) (page slot : ℕ) (bytes : Bytes) (new : ℕ → ℕ → Written) (after : Layout) : Type 0 where
  pub settled : IsSettled new after
  pub pages : after.pages ≡ layout.pages
  pub there : shown new after page slot ≡ bytes
  pub others : (p s : ℕ) → p < layout.pages → s < PAGE_SLOTS → (p ≡ page → s ≡ slot → ⊥) → shown new after p s ≡ shown old layout p s

-- one page of the log is blank
pub record IsBlanked (old : ℕ → ℕ → Written) (layout : Layout) (page : ℕ) (new : ℕ → ℕ → Written) (after : Layout) : Type 0 where
  pub settled : IsSettled new after
  pub pages : after.pages ≡ layout.pages
  pub blank_there : (s : ℕ) → s < PAGE_SLOTS → shown new after page s ≡ blank
  pub others : (p s : ℕ) → p < layout.pages → s < PAGE_SLOTS → (p ≡ page → ⊥) → shown new after p s ≡ shown old layout p s

-- no slot of the log but this one has a cell in doubt
abbrev pub IsSettledBut : (ℕ → ℕ → Written) → Layout → ℕ → ℕ → Type 0
IsSettledBut slots layout page slot = (p s : ℕ) → p < layout.pages → s < PAGE_SLOTS → (p ≡ page → s ≡ slot → ⊥) → Holds (slots (held_at layout.held p).page s) (shown slots layout p s)

-- bytes were torn into one slot of the log, which was blank
pub record IsTornInto (old : ℕ → ℕ → Written) (layout : Layout) (page slot : ℕ) (bytes : Bytes) (new : ℕ → ℕ → Written) (after : Layout) : Type 0 where
  pub now : Bytes
  pub changed : IsChanged old layout page slot now new after
  pub torn : ProgramMayLeave blank bytes now

-- one slot of the log is in doubt, and each other is as it was
pub record IsDoubted (old : ℕ → ℕ → Written) (layout : Layout) (page slot : ℕ) (new : ℕ → ℕ → Written) (after : Layout) : Type 0 where
  pub settled : IsSettledBut new after page slot
  pub pages : after.pages ≡ layout.pages
  pub others : (p s : ℕ) → p < layout.pages → s < PAGE_SLOTS → (p ≡ page → s ≡ slot → ⊥) → shown new after p s ≡ shown old layout p s
