-- Trusted: which page of the flash holds which page of the log.
use Rattle.std.specs.Prelude.{◌≡◌, ℕ, ◌+◌, ◌<◌, ◌≤◌, ◌^◌, List, length, slice_index_or, false}
use Rattle.steady_flash.specs.declared.layout.Held.{Held}
use Rattle.steady_flash.specs.declared.layout.Layout.{Layout}
use Rattle.steady_flash.specs.declared.moving.TheConstants.{LAST_WRITTEN}
use Rattle.steady_flash.specs.Marked.{Size}

-- the page of the flash that holds a page of the log
abbrev pub held_at : List Held → ℕ → Held
held_at held page = slice_index_or held page (record { page = 0; index = 0; number = 0; is_opened = false })

-- a flash of 3 to 9 pages with 8 to 80 triples each, one page more than the log
pub record IsServed (size : Size) (pages : ℕ) : Type 0 where
  pub count : size.pages ≡ pages + 1
  pub least : 2 ≤ pages
  pub most : pages ≤ 8
  pub few : 8 ≤ size.triples
  pub many : size.triples ≤ 80

-- each claim that counts stands on the flash
pub record IsPlaced (size : Size) (layout : Layout) : Type 0 where
  pub served : IsServed size layout.pages
  pub eight : length layout.held ≡ 8
  pub page : (p : ℕ) → p < layout.pages → (held_at layout.held p).page ≤ layout.pages
  pub index : (p : ℕ) → p < layout.pages → (held_at layout.held p).index < size.triples
  pub number : (p : ℕ) → p < layout.pages → (held_at layout.held p).number < 2 ^ 21
  pub spare : layout.spare ≤ layout.pages

-- no page of the flash holds two pages of the log, and the spare one holds none
pub record IsLaidOut (size : Size) (layout : Layout) : Type 0 where
  pub placed : IsPlaced size layout
  pub apart : (p q : ℕ) → p < layout.pages → q < layout.pages → (held_at layout.held p).page ≡ (held_at layout.held q).page → p ≡ q
  pub free : (p : ℕ) → p < layout.pages → (held_at layout.held p).page ≡ layout.spare → ⊥

-- the pages have numbers for so many operations more
abbrev pub LastsFor : Layout → ℕ → Type 0
LastsFor layout n = (p : ℕ) → p < layout.pages → (held_at layout.held p).number + n ≤ LAST_WRITTEN + 1
