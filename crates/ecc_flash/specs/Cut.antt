-- Trusted: which unit operations an operation of the adapter makes, and a flash whose power fails inside one of them.
use Rattle.shapes.specs.Shapes.{Bytes}
use Rattle.std.specs.Prelude.{◌≡◌, ℕ, zero, suc, ◌+◌, ◌*◌, Option, None, Some, true, replicate}
use Rattle.flash_model.specs.FlashOperation.{FlashOperation, programs, erases}
use Rattle.ecc_flash.specs.Reading.{blank, is_word, check_of}
use Rattle.ecc_flash.specs.Model.{WriteUnit}
use Rattle.ecc_flash.specs.UnitOperation.{UnitOperation, programs_unit, erases_units}

-- a flash, and after how many more unit operations its power fails inside one; none where it has failed. Each that comes before is
-- made as the flash makes it, and counts; the one inside which the power fails is the last; behind it nothing is made
abbrev pub CutOperates : {F : Type 0} → (F → UnitOperation → F → Type 0) → F × Option ℕ → UnitOperation → F × Option ℕ → Type 0
CutOperates makes (old, None) operation new = new ≡ (old, None)
CutOperates makes (old, Some zero) operation new = makes old operation new.0 × (new.1 ≡ None)
CutOperates makes (old, Some (suc left)) operation new = makes old operation new.0 × (new.1 ≡ Some left)

-- a program of a slot: none where it is no word of a log, or the slot is not Free. The first unit is programmed with the word;
-- once that reads back the second one with its check; where the first took nothing the second one with zeros; else no more
pub data ProgramsPair {F : Type 0} (units : F → ℕ → ℕ → WriteUnit) (makes : F → UnitOperation → F → Type 0) (old : F) (page slot : ℕ) (bytes : Bytes) (new : F) : Type 0 where
  refused : (is_word bytes ≡ true → (units old page (2 * slot)).reads ≡ Some blank → (units old page (2 * slot + 1)).reads ≡ Some blank → ⊥)
      → new ≡ old → ProgramsPair units makes old page slot bytes new
  checked : (between : F) → makes old (programs_unit page (2 * slot) bytes) between → (units between page (2 * slot)).reads ≡ Some bytes
      → makes between (programs_unit page (2 * slot + 1) (check_of bytes)) new → ProgramsPair units makes old page slot bytes new
  marked : (between : F) → makes old (programs_unit page (2 * slot) bytes) between → (units between page (2 * slot)).reads ≡ Some blank
      → makes between (programs_unit page (2 * slot + 1) (replicate 8 0)) new → ProgramsPair units makes old page slot bytes new
  alone : makes old (programs_unit page (2 * slot) bytes) new → ((units new page (2 * slot)).reads ≡ Some blank → ⊥)
      → ProgramsPair units makes old page slot bytes new

-- an operation of the adapter: a program of a slot, or an erase, which is one of the page
abbrev pub PairOperates : {F : Type 0} → (F → ℕ → ℕ → WriteUnit) → (F → UnitOperation → F → Type 0) → F → FlashOperation → F → Type 0
PairOperates units makes old (programs page slot bytes) new = ProgramsPair units makes old page slot bytes new
PairOperates units makes old (erases page) new = makes old (erases_units page) new

-- the power fails inside the unit operation of this operation that comes after so many others
abbrev pub CutInside : {F : Type 0} → (F → ℕ → ℕ → WriteUnit) → (F → UnitOperation → F → Type 0) → F → FlashOperation → ℕ → F → Type 0
CutInside {F} units makes old operation whole new =
    (left : Option ℕ) × PairOperates (λ (cut : F × Option ℕ). units cut.0) (CutOperates makes) (old, Some whole) operation (new, left)
