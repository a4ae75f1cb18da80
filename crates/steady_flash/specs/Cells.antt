-- Trusted: eight bytes of flash whose cells may be in doubt, what they may read as, and what a program and an erase make of them.
use Rattle.shapes.specs.Shapes.{Bytes}
use Rattle.std.specs.Prelude.{◌≡◌, ℕ, ◌<◌, ◌⊎◌, List, [], ◌∷◌, length, slice_index, replicate, bit_and}
use Rattle.std.specs.List.{All}
use Rattle.flash_model.specs.Torn.{Within, ProgramMayLeave}

-- eight bytes
pub record IsEight (bytes : Bytes) : Type 0 where
  pub eight : length bytes ≡ 8
  pub each : (k : ℕ) → slice_index bytes k < 256

-- cells by the least that they read as and the most: one that is set in both is set, one that is clear in both is clear, and one
-- that is clear in the least and set in the most is in doubt
pub record Cells : Type 0 where
  pub least : Bytes
  pub most : Bytes

-- cells of eight bytes
pub record IsCells (cells : Cells) : Type 0 where
  pub least : IsEight cells.least
  pub most : IsEight cells.most
  pub doubt : Within cells.least cells.most

-- none of the cells is in doubt
abbrev pub IsFirm : Cells → Type 0
IsFirm cells = cells.most ≡ cells.least

-- what the cells may read as: one in doubt as either, each time anew
pub record IsReading (cells : Cells) (read : Bytes) : Type 0 where
  pub set : Within cells.least read
  pub clear : Within read cells.most

-- a place of eight bytes: its cells, and what it was programmed with, whole or torn, since it was last erased as a whole
pub record Written : Type 0 where
  pub cells : Cells
  pub begun : List Bytes

-- eight bytes FFh
abbrev pub blank : Bytes
blank = replicate 8 255

-- a place that was erased as a whole, and not programmed since
abbrev pub erased : Written
erased = record { cells = record { least = blank; most = blank }; begun = [] }

-- a slot takes these bytes: it was programmed with no others
abbrev pub TakesSlot : Written → Bytes → Type 0
TakesSlot place bytes = All (λ b. b ≡ bytes) place.begun

-- and a mark: into one that was programmed with zeros others may go
abbrev pub TakesMark : Written → Bytes → Type 0
TakesMark place bytes = All (λ b. (b ≡ bytes) ⊎ (b ≡ replicate 8 0)) place.begun

-- a whole program: each cell that the bytes want clear is clear, and no other has changed
pub record IsProgrammed (old : Written) (bytes : Bytes) (new : Written) : Type 0 where
  pub begun : new.begun ≡ bytes ∷ old.begun
  pub least : (k : ℕ) → k < 8 → slice_index new.cells.least k ≡ bit_and (slice_index old.cells.least k) (slice_index bytes k)
  pub most : (k : ℕ) → k < 8 → slice_index new.cells.most k ≡ bit_and (slice_index old.cells.most k) (slice_index bytes k)

-- a torn program: each cell that the bytes want clear is as it was, clear or in doubt; one that was clear is clear, and no other
-- has changed
pub record MayBeProgrammed (old : Written) (bytes : Bytes) (new : Written) : Type 0 where
  pub begun : new.begun ≡ bytes ∷ old.begun
  pub least : ProgramMayLeave old.cells.least bytes new.cells.least
  pub most : ProgramMayLeave old.cells.most bytes new.cells.most

-- a torn erase: the cells are anything
pub record MayBeErased (old new : Written) : Type 0 where
  pub begun : new.begun ≡ old.begun
