-- Trusted: the cells of a write unit, those of the error correction among them, and what they read as.
use Rattle.shapes.specs.Shapes.{Bytes}
use Rattle.std.specs.Prelude.{◌≡◌, ℕ, ◌++◌, ◌<◌, Option, None, Some, length, slice_index, replicate}
use Rattle.std.specs.Int.{bit_at}
use Rattle.flash_model.specs.Torn.{Within}
use Rattle.ecc_flash.specs.Units.{IsEight}
use Rattle.ecc_flash.specs.Reading.{blank}
use Rattle.ecc_flash.specs.Model.{WriteUnit}

-- as many cells, which differ in one at most
pub record IsNear (cells others : Bytes) : Type 0 where
  pub same_length : length others ≡ length cells
  pub byte : ℕ
  pub bit : ℕ
  pub rest : (k i : ℕ) → (k ≡ byte → i ≡ bit → ⊥) → bit_at (slice_index others k) i ≡ bit_at (slice_index cells k) i

-- the cells of eight bytes: the bytes, and then their check
abbrev pub code_word : (Bytes → Bytes) → Bytes → Bytes
code_word check bytes = bytes ++ check bytes

-- a code that corrects one cell: no cells are near to two of its words, as where any two of them differ in three cells or more
-- (in four, where two wrong cells are told from one); and an erased unit is one of its words
pub record IsCode (size : ℕ) (check : Bytes → Bytes) : Type 0 where
  pub all_checks : (bytes : Bytes) → IsEight bytes → length (check bytes) ≡ size
  pub of_blank : check blank ≡ replicate size 255
  pub apart : (one two cells : Bytes) → IsEight one → IsEight two → IsNear (code_word check one) cells → IsNear (code_word check two) cells → one ≡ two

-- what cells read as: the bytes whose code word is near, but FFh only where each cell is set; else an error
abbrev pub ReadsCells : (Bytes → Bytes) → Bytes → Option Bytes → Type 0
ReadsCells check cells None = (bytes : Bytes) → IsEight bytes → IsNear (code_word check bytes) cells → (bytes ≡ blank) × (cells ≡ code_word check blank → ⊥)
ReadsCells check cells (Some bytes) = IsEight bytes × IsNear (code_word check bytes) cells × (bytes ≡ blank → cells ≡ code_word check blank)

-- a unit and its cells: those are set that the bytes want set that it was last programmed with
pub record HasCells (check : Bytes → Bytes) (unit : WriteUnit) (cells : Bytes) : Type 0 where
  pub eight : IsEight unit.meant
  pub set : Within (code_word check unit.meant) cells
  pub bytes : (k : ℕ) → slice_index cells k < 256
  pub reads : ReadsCells check cells unit.reads

-- a program of an erased unit: it clears cells that the code word of its bytes wants clear, all of them, or some where it is torn
pub record ProgramsCells (check : Bytes → Bytes) (programmed new : Bytes) : Type 0 where
  pub set : Within (code_word check programmed) new
  pub bytes : (k : ℕ) → slice_index new k < 256

-- an erase: it sets cells, all of them, or some where it is torn
pub record ErasesCells (old new : Bytes) : Type 0 where
  pub set : Within old new
  pub bytes : (k : ℕ) → slice_index new k < 256
