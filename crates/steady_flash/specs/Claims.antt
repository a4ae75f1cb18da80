-- Trusted: which page of the flash counts as one of the log, whatever its marks read as.
use Rattle.shapes.specs.Shapes.{Bytes}
use Rattle.std.specs.Prelude.{◌≡◌, ℕ, ◌+◌, ◌-◌, ◌*◌, ◌<◌, ◌≤◌, ◌^◌, ◌⊎◌, take}
use Rattle.std.specs.Int.{from_le_bytes, w32}
use Rattle.std.specs.List.{Contains}
use Rattle.steady_flash.specs.Cells.{Written, IsReading, TakesSlot, blank, erased}
use Rattle.flash_model.specs.declared.TheConstants.{PAGE_SLOTS}
use Rattle.steady_flash.specs.Marked.{Size, IsMarkWord}
use Rattle.steady_flash.specs.Layout.{held_at, IsLaidOut}
use Rattle.steady_flash.specs.Moves.{Holds}
use Rattle.steady_flash.specs.declared.layout.Held.{Held}
use Rattle.steady_flash.specs.declared.layout.Layout.{Layout}

-- the number that a mark's first four bytes are
abbrev pub word_of : Bytes → ℕ
word_of bytes = from_le_bytes w32 (take 4 bytes)

-- the claim of a page of the flash, with a number, for a page of a log of so many pages: 21 bits of the number, four of the page of
-- the flash, three of the pages less one, and the page of the log
pub record IsClaim (pages at page number : ℕ) (bytes : Bytes) : Type 0 where
  pub word : IsMarkWord bytes
  pub says : word_of bytes ≡ 268435456 * page + 33554432 * (pages - 1) + 2097152 * at + number
  pub small : number < 2 ^ 21

-- the mark of a claim was programmed with it, whole or torn, since it was last erased as a whole
pub record IsBegun (marks : ℕ → ℕ → Written) (pages at index page number : ℕ) : Type 0 where
  pub bytes : Bytes
  pub begun : Contains (marks at (1 + 3 * index)).begun bytes
  pub claims : IsClaim pages at page number bytes

-- the mark of a claim holds it, with no cell in doubt
pub record IsFirm (mark : Written) (pages at page number : ℕ) : Type 0 where
  pub bytes : Bytes
  pub claims : IsClaim pages at page number bytes
  pub least : mark.cells.least ≡ bytes
  pub most : mark.cells.most ≡ bytes

-- this claim counts: it is firm, and of the same page of the log none was begun that is greater, nor another one as great
pub record Counts (size : Size) (marks : ℕ → ℕ → Written) (pages at index page number : ℕ) : Type 0 where
  pub some : 1 ≤ number
  pub small : number < 2 ^ 21
  pub firm : IsFirm (marks at (1 + 3 * index)) pages at page number
  pub greatest : (q j m : ℕ) → q < size.pages → j < size.triples → IsBegun marks pages q j page m → m ≤ number
  pub alone : (q j : ℕ) → q < size.pages → j < size.triples → IsBegun marks pages q j page number → (q ≡ at) × (j ≡ index)

-- for each page of the log one claim counts, each on a page of its own
pub record IsClaimed (size : Size) (marks : ℕ → ℕ → Written) (layout : Layout) : Type 0 where
  pub laid_out : IsLaidOut size layout
  pub counts : (p : ℕ) → p < layout.pages → Counts size marks layout.pages (held_at layout.held p).page (held_at layout.held p).index p (held_at layout.held p).number

-- where the mark of a page may read as blank, none of its slots has a cell in doubt
abbrev pub IsOpenTold : (ℕ → ℕ → Written) → (ℕ → ℕ → Written) → ℕ → Type 0
IsOpenTold marks slots at = IsReading (marks at 0).cells blank → (s : ℕ) → s < PAGE_SLOTS → Holds (slots at s) (slots at s).cells.least

-- a place holds, with no cell in doubt, what another one may have read as
pub record IsReadAs (old new : Written) : Type 0 where
  pub holds : Holds new new.cells.least
  pub read : IsReading old.cells new.cells.least

-- a page of the log holds, with no cell in doubt, what a page of the flash may have read as
abbrev pub IsSettledPage : (ℕ → ℕ → Written) → ℕ → (ℕ → ℕ → Written) → Layout → ℕ → Type 0
IsSettledPage old at new layout page = (s : ℕ) → s < PAGE_SLOTS → IsReadAs (old at s) (new (held_at layout.held page).page s)

-- no mark of a page was programmed that says that slots of it are
abbrev pub IsSameOpen : (ℕ → ℕ → Written) → (ℕ → ℕ → Written) → Type 0
IsSameOpen old new = (q : ℕ) → new q 0 ≡ old q 0

-- a page of the log lies where it lay, with the slots that it had
pub record IsUntouched (marks slots : ℕ → ℕ → Written) (layout : Layout) (marks' slots' : ℕ → ℕ → Written) (after : Layout) (page : ℕ) : Type 0 where
  pub place : (held_at after.held page).page ≡ (held_at layout.held page).page
  pub slots_there : (s : ℕ) → slots' (held_at layout.held page).page s ≡ slots (held_at layout.held page).page s
  pub open_there : marks' (held_at layout.held page).page 0 ≡ marks (held_at layout.held page).page 0

-- a start found the pages where they lie
pub record IsFound (before found : Layout) : Type 0 where
  pub pages : found.pages ≡ before.pages
  pub page : (p : ℕ) → p < before.pages → (held_at found.held p).page ≡ (held_at before.held p).page
  pub index : (p : ℕ) → p < before.pages → (held_at found.held p).index ≡ (held_at before.held p).index
  pub number : (p : ℕ) → p < before.pages → (held_at found.held p).number ≡ (held_at before.held p).number

-- what it has found when it has read the claims before a place
pub record IsFoundTo (before found : Layout) (at index : ℕ) : Type 0 where
  pub pages : found.pages ≡ before.pages
  pub below : (p : ℕ) → p < before.pages → (held_at found.held p).number ≤ (held_at before.held p).number
  pub same : (p : ℕ) → p < before.pages → (held_at found.held p).number ≡ (held_at before.held p).number → ((held_at found.held p).page ≡ (held_at before.held p).page) × ((held_at found.held p).index ≡ (held_at before.held p).index)
  pub reached : (p : ℕ) → p < before.pages → ((held_at before.held p).page < at) ⊎ (((held_at before.held p).page ≡ at) × ((held_at before.held p).index < index)) → (held_at found.held p).number ≡ (held_at before.held p).number

-- a page is held as before, or by the greater claim that was read
abbrev pub IsTaken : Held → Held → ℕ → ℕ → ℕ → ℕ → Bytes → Type 0
IsTaken old new pages at index page read = (new ≡ old) ⊎ ((new.page ≡ at) × (new.index ≡ index) × (old.number < new.number) × IsClaim pages at page new.number read)

-- a page is held as before, or, where that is so, by this greater claim
abbrev pub IsKeptOr : Held → Held → ℕ → ℕ → Type 0 → ℕ → Type 0
IsKeptOr old new at index here number = (new ≡ old) ⊎ (here × (new.page ≡ at) × (new.index ≡ index) × (old.number < new.number) × (new.number ≡ number))

-- each claim that was begun says where it stands
abbrev pub IsOurs : Size → (ℕ → ℕ → Written) → ℕ → Type 0
IsOurs size marks pages = (q j pages' at page number : ℕ) (bytes : Bytes) → q < size.pages → j < size.triples → Contains (marks q (1 + 3 * j)).begun bytes → IsClaim pages' at page number bytes → (pages' ≡ pages) × (at ≡ q)

-- no page of the log is found on this page of the flash
abbrev pub IsUnheld : Layout → ℕ → Type 0
IsUnheld layout at = (p : ℕ) → p < layout.pages → 0 < (held_at layout.held p).number → (held_at layout.held p).page ≡ at → ⊥

-- the page has a mark and numbers left for a bump and a move
pub record HasRoom (triples : ℕ) (held : Held) : Type 0 where
  pub mark : held.index + 1 < triples
  pub number : held.number + 3 < 2 ^ 21

-- a page is held as before, or, where that is so, by a number greater by two
abbrev pub IsRaised : Held → Held → Type 0 → Type 0
IsRaised old new here = (new ≡ old) ⊎ (here × (new.number ≡ old.number + 2))

-- no page is held by a number greater by more than one
abbrev pub IsNoGreater : Layout → Layout → Type 0
IsNoGreater old new = (p : ℕ) → (held_at new.held p).number ≤ (held_at old.held p).number + 1

-- each mark of a page is erased
abbrev pub IsErasedMarks : (ℕ → ℕ → Written) → ℕ → ℕ → Type 0
IsErasedMarks marks triples at = (m : ℕ) → m ≤ 3 * triples → marks at m ≡ erased

-- a mark was programmed as a whole, with these bytes alone
pub record IsMarked (bytes : Bytes) (mark : Written) : Type 0 where
  pub takes : TakesSlot mark bytes
  pub least : mark.cells.least ≡ bytes
  pub most : mark.cells.most ≡ bytes
