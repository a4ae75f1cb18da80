-- Trusted: which pages a start may find, whatever their marks read as.
use Rattle.shapes.specs.Shapes.{Bytes}
use Rattle.std.specs.Prelude.{◌≡◌, ℕ, ◌+◌, ◌*◌, ◌<◌, ◌≤◌, ◌⊎◌}
use Rattle.steady_flash.specs.Cells.{Written}
use Rattle.steady_flash.specs.Marked.{Size, IsMarkReading}
use Rattle.steady_flash.specs.Layout.{held_at}
use Rattle.steady_flash.specs.Claims.{IsClaim, IsFirm, IsOpenTold}
use Rattle.steady_flash.specs.declared.layout.Layout.{Layout}

-- the mark of a claim may read as this one
pub record MayRead (marks : ℕ → ℕ → Written) (pages at index page number : ℕ) : Type 0 where
  pub bytes : Bytes
  pub reads : IsMarkReading (marks at (1 + 3 * index)) bytes
  pub claims : IsClaim pages at page number bytes

-- and of the same page of the log no firm claim is greater
pub record MayCount (size : Size) (marks : ℕ → ℕ → Written) (pages at index page number : ℕ) : Type 0 where
  pub read : MayRead marks pages at index page number
  pub least : (q j m : ℕ) → q < size.pages → j < size.triples → IsFirm (marks q (1 + 3 * j)) pages q page m → m ≤ number

-- whichever pages a start finds: each of them whose mark may read as blank has no cell in doubt
abbrev pub IsFoundTold : Size → (ℕ → ℕ → Written) → (ℕ → ℕ → Written) → ℕ → Type 0
IsFoundTold size marks slots pages = (at index page number : ℕ) → at < size.pages → index < size.triples → page < pages → MayCount size marks pages at index page number → IsOpenTold marks slots at

-- what was found when the claims before a place were read
pub record IsReadTo (triples : ℕ) (marks : ℕ → ℕ → Written) (found : Layout) (at index : ℕ) : Type 0 where
  pub read : (p : ℕ) → p < found.pages → 1 ≤ (held_at found.held p).number → MayRead marks found.pages (held_at found.held p).page (held_at found.held p).index p (held_at found.held p).number
  pub least : (p q j m : ℕ) → p < found.pages → j < triples → (q < at) ⊎ ((q ≡ at) × (j < index)) → IsFirm (marks q (1 + 3 * j)) found.pages q p m → m ≤ (held_at found.held p).number

-- and when all were
abbrev pub MayBeFound : Size → (ℕ → ℕ → Written) → Layout → Type 0
MayBeFound size marks found = (p : ℕ) → p < found.pages → MayCount size marks found.pages (held_at found.held p).page (held_at found.held p).index p (held_at found.held p).number
