-- Trusted: what a loss of power may leave at any moment of a call.
use Rattle.shapes.specs.Shapes.{Bytes}
use Rattle.std.specs.Prelude.{◌≡◌, ℕ, ◌+◌, ◌%◌, ◌^◌}
use Rattle.flash_model.specs.Image.{IsImage}
use Rattle.flash_model.specs.FlashOperation.{FlashOperation, programs, erases}
use Rattle.flash_model.specs.Operations.{MayProgram, MayErase}
use Rattle.page_turnover.specs.declared.operation.Operation.{Operation}
use Rattle.page_turnover.specs.Next.{on_flash, ReadsBack}

-- what an operation leaves that is cut short
abbrev pub MayLeave : Bytes → FlashOperation → Bytes → Type 0
MayLeave old (programs page slot bytes) new = MayProgram old page slot bytes new
MayLeave old (erases page) new = MayErase old page new

-- one operation makes a flash of another, and whatever a cut inside it leaves has P
pub record IsOperation {F : Type 0} (image : F → Bytes) (operates : F → FlashOperation → F → Type 0) (P : Bytes → Type 0) (old new : F) : Type 0 where
  pub operation : FlashOperation
  pub made : operates old operation new
  pub cut : (left : Bytes) → IsImage left → MayLeave (image old) operation left → P left

-- operations one after another make a flash of another; between them, and whatever a cut inside one of them leaves, the image has P
pub data AtEachMoment {F : Type 0} (image : F → Bytes) (operates : F → FlashOperation → F → Type 0) (P : Bytes → Type 0) (old : F) : F → Type 0 where
  begins : P (image old) → AtEachMoment image operates P old old
  goes_on : (flash new : F) → AtEachMoment image operates P old flash → IsOperation image operates P flash new → P (image new) → AtEachMoment image operates P old new

-- the flash answered a fault to an operation and counted it, and the operation's slot or page does not read as intended
pub record IsFault {F : Type 0} (image : F → Bytes) (faults : F → ℕ) (operates : F → FlashOperation → F → Type 0) (old new : F) : Type 0 where
  pub operation : Operation
  pub made : operates old (on_flash operation) new
  pub counted : faults new ≡ (faults old + 1) % 2 ^ 64
  pub unread : ReadsBack operation (image new) → ⊥

-- operations one after another, of which the last one is such a fault
pub record EndsInFault {F : Type 0} (image : F → Bytes) (faults : F → ℕ) (operates : F → FlashOperation → F → Type 0) (P : Bytes → Type 0) (old new : F) : Type 0 where
  pub flash : F
  pub before : AtEachMoment image operates P old flash
  pub fault : IsFault image faults operates flash new
