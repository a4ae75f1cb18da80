-- Trusted: what a program of the log's flash leaves that failed.
use Rattle.shapes.specs.Shapes.{Bytes}
use Rattle.std.specs.Prelude.{◌≡◌, ℕ}
use Rattle.flash_model.specs.Operations.{MayProgram}
use Rattle.steady_flash.specs.Cells.{Written, blank}
use Rattle.steady_flash.specs.Shown.{shown, image_of, IsSettled, IsDoubted}
use Rattle.steady_flash.specs.declared.layout.Layout.{Layout}
use Rattle.steady_flash.specs.declared.writing.Failed.{Failed}
use Rattle.steady_flash.specs.declared.writing.Failed.TheVariants.{InDoubt}

-- the second where a slot is in doubt, and else the first
abbrev pub LeavesEither : Failed → Type 0 → Type 0 → Type 0
LeavesEither InDoubt settled doubted = doubted
LeavesEither _ settled doubted = settled

-- a slot that reads as torn; or one in doubt, which was blank
abbrev pub Leaves : Failed → (ℕ → ℕ → Written) → Layout → ℕ → ℕ → Bytes → (ℕ → ℕ → Written) → Layout → Type 0
Leaves why old layout page slot bytes new after = LeavesEither why
    (IsSettled new after × MayProgram (image_of old layout) page slot bytes (image_of new after))
    (IsDoubted old layout page slot new after × shown old layout page slot ≡ blank)
