-- Trusted: pages of slots, each with marks, and what an operation leaves of them.
use Rattle.shapes.specs.Shapes.{Bytes}
use Rattle.std.specs.Prelude.{◌≡◌, ℕ, ◌*◌, ◌<◌, ◌≤◌, take, drop}
use Rattle.std.specs.Int.{from_le_bytes, bit_not, rotate_left, w32}
use Rattle.std.specs.List.{Contains}
use Rattle.flash_model.specs.declared.TheConstants.{PAGE_SLOTS}
use Rattle.steady_flash.specs.Cells.{IsEight, IsCells, IsReading, Written}

-- how many pages there are, and how many triples of marks each has
pub record Size : Type 0 where
  pub pages : ℕ
  pub triples : ℕ

-- a mark's word: four bytes, the lowest first, and then those of their complement, turned left by one bit
pub record IsMarkWord (bytes : Bytes) : Type 0 where
  pub eight : IsEight bytes
  pub turned : from_le_bytes w32 (drop 4 bytes) ≡ rotate_left w32 (bit_not w32 (from_le_bytes w32 (take 4 bytes))) 1

-- what a mark may read as: a word only if it was programmed with it
pub record IsMarkReading (mark : Written) (read : Bytes) : Type 0 where
  pub cells : IsReading mark.cells read
  pub no_other_word : IsMarkWord read → Contains mark.begun read

-- each slot and each mark has the cells of eight bytes
pub record HasCells (size : Size) (slot mark : ℕ → ℕ → Written) : Type 0 where
  pub slots : (p s : ℕ) → p < size.pages → s < PAGE_SLOTS → IsCells (slot p s).cells
  pub marks : (p m : ℕ) → p < size.pages → m ≤ 3 * size.triples → IsCells (mark p m).cells

-- all places are as they were
abbrev pub Same : (ℕ → ℕ → Written) → (ℕ → ℕ → Written) → Type 0
Same old new = (p i : ℕ) → new p i ≡ old p i

-- but for one
abbrev pub OnePlace : (ℕ → ℕ → Written) → ℕ → ℕ → (ℕ → ℕ → Written) → Type 0
OnePlace old page place new = (p i : ℕ) → (p ≡ page → i ≡ place → ⊥) → new p i ≡ old p i

-- but for those of a page
abbrev pub OnePageOfPlaces : (ℕ → ℕ → Written) → ℕ → (ℕ → ℕ → Written) → Type 0
OnePageOfPlaces old page new = (p i : ℕ) → (p ≡ page → ⊥) → new p i ≡ old p i
