-- Trusted: what a move of a page leaves on the spare page, and which page holds what then.
use Rattle.shapes.specs.Shapes.{Bytes}
use Rattle.std.specs.Prelude.{◌≡◌, ℕ, ◌+◌, ◌<◌, slice_set, false, MatchOption, Option}
use Rattle.flash_model.specs.Torn.{Within}
use Rattle.flash_model.specs.declared.TheConstants.{PAGE_SLOTS}
use Rattle.steady_flash.specs.Cells.{IsEight, Written, IsReading, TakesSlot, blank, erased}
use Rattle.steady_flash.specs.Layout.{held_at}
use Rattle.steady_flash.specs.declared.layout.Layout.{Layout}
use Rattle.steady_flash.specs.declared.moving.Changed.{Changed}

-- a place that holds these bytes, with no cell in doubt; where they are blank it was not programmed since it was erased
pub record Holds (place : Written) (bytes : Bytes) : Type 0 where
  pub eight : IsEight bytes
  pub least : place.cells.least ≡ bytes
  pub most : place.cells.most ≡ bytes
  pub erased_if_blank : bytes ≡ blank → place ≡ erased

-- a place that was erased, into which these bytes were torn
pub record IsTorn (bytes : Bytes) (place : Written) : Type 0 where
  pub takes : TakesSlot place bytes
  pub least : Within bytes place.cells.least
  pub most : Within bytes place.cells.most

-- what a slot is copied as: the changed one as it was changed to, each other as it reads
abbrev pub IsCopied : Option Changed → ℕ → Written → Bytes → Type 0
IsCopied changed slot place bytes = MatchOption changed
    (IsReading place.cells bytes)
    (λ change. (change.slot ≡ slot → bytes ≡ change.bytes) × ((change.slot ≡ slot → ⊥) → IsReading place.cells bytes))

-- each slot of a page is erased
abbrev pub IsErasedPage : (ℕ → ℕ → Written) → ℕ → Type 0
IsErasedPage slots page = (s : ℕ) → s < PAGE_SLOTS → slots page s ≡ erased

-- a place that holds what another was copied as
pub record IsCopiedTo (from : Written) (changed : Option Changed) (slot : ℕ) (to : Written) : Type 0 where
  pub holds : Holds to to.cells.least
  pub copied : IsCopied changed slot from to.cells.least

-- each slot of a page was copied from another
abbrev pub IsCopy : (ℕ → ℕ → Written) → ℕ → Option Changed → (ℕ → ℕ → Written) → ℕ → Type 0
IsCopy old from changed new to = (s : ℕ) → s < PAGE_SLOTS → IsCopiedTo (old from s) changed s (new to s)

-- the spare page holds a page of the log, with the next number, and the one that did is spare
abbrev pub moved : Layout → ℕ → Layout
moved layout page = record {
  pages = layout.pages;
  held = slice_set layout.held page (record { page = layout.spare; index = 0; number = (held_at layout.held page).number + 1; is_opened = false });
  spare = (held_at layout.held page).page;
}
