-- Trusted: a keyboard with its host on a flash that can be cut, as a history of the world.
use Rattle.shapes.specs.Shapes.{Bytes}
use Rattle.std.specs.Prelude.{◌≡◌, ℕ, Option, Some, None, List, ◌∷◌}
use Rattle.flash_model.specs.ByMask.{IsMask}
use Rattle.flash_model.specs.FlashOperation.{FlashOperation}
use Rattle.flash_model.specs.Sim.{SimValue}
use Rattle.arrayvec.specs.ArrayVec.{ArrayVec}
use Rattle.layers.specs.Codes.{DefaultCodes}
use Rattle.page_turnover.specs.declared.operation.Operation.{Operation}
use Rattle.page_turnover.specs.Next.{on_flash}
use Rattle.keymap_store.specs.declared.store.Work.TheVariants.{Failed}
use Rattle.keyboard.specs.Feature.{Where}
use Rattle.world.specs.declared.event.Answer.{Answer}
use Rattle.world.specs.declared.event.Answer.TheVariants.{Worked}
use Rattle.world.specs.declared.event.Event.{Event}
use Rattle.world.specs.declared.event.Event.TheVariants as event
use Rattle.world.specs.Erases.{ErasesSeldom, operation_of}
use Rattle.world.specs.Kinds.{Step}
use Rattle.world.specs.Promise.{Promise}
use Rattle.flash_theorem.specs.declared.board.Happening.{Happening}
use Rattle.flash_theorem.specs.declared.board.Reported.{Reported}
use Rattle.flash_theorem.specs.declared.board.Happening.TheVariants.{Scan, Setup, OutPacket, InPacket, Poll, Work, Cut, CutInWork, BusReset, Entry, Leds}

-- a mask of bits that take effect
abbrev pub ByMask : (ArrayVec ℕ → Event) → Event → Type 0
ByMask torn happened = (mask : ArrayVec ℕ) × IsMask mask.items × (happened ≡ torn mask)

-- what happens, as an event of the world: a step of the flash work that fails is torn by some mask, and each other is a whole one,
-- whatever the flash reported; the one that the power is cut inside is torn by some mask too
abbrev pub IsAs : Happening → Answer → Event → Type 0
IsAs (Scan scan) answer happened = happened ≡ event.Scan scan
IsAs (Setup bytes) answer happened = happened ≡ event.Setup bytes
IsAs (OutPacket packet) answer happened = happened ≡ event.OutPacket packet
IsAs InPacket answer happened = happened ≡ event.InPacket
IsAs Poll answer happened = happened ≡ event.Poll
IsAs Work answer happened = Where (answer ≡ Worked Failed) (ByMask event.WorkFault happened) (happened ≡ event.Work)
IsAs (Cut starts) answer happened = happened ≡ event.Cut
IsAs (CutInWork whole starts) answer happened = ByMask event.CutInWork happened
IsAs BusReset answer happened = happened ≡ event.BusReset
IsAs (Entry layer key) answer happened = happened ≡ event.Entry layer key
IsAs Leds answer happened = happened ≡ event.Leds

-- a power loss
abbrev pub IsLoss : Happening → Type 0
IsLoss (Cut starts) = Unit {0}
IsLoss (CutInWork whole starts) = Unit {0}
IsLoss _ = ⊥

-- a step of the flash work makes this operation of the flash, or none
abbrev pub Works : {F : Type 0} → (F → FlashOperation → F → Type 0) → Option Operation → F → F → Type 0
Works operates (Some operation) old new = operates old (on_flash operation) new
Works operates None old new = new ≡ old

-- the power is lost in this operation, behind so many others of the flash below, or between two operations, and starts follow
abbrev pub CutsIn : {F : Type 0} → (F → F → Type 0) → (F → FlashOperation → ℕ → F → Type 0) → ℕ → Option Operation → F → F → Type 0
CutsIn rests cuts whole (Some operation) old new = cuts old (on_flash operation) whole new
CutsIn rests cuts whole None old new = rests old new

-- an event that is none of the flash work leaves the flash as it is, or is a power loss between two operations
abbrev pub Keeps : {F : Type 0} → (F → F → Type 0) → Happening → F → F → Type 0
Keeps rests Work old new = Unit {0}
Keeps rests (CutInWork whole starts) old new = Unit {0}
Keeps rests (Cut starts) old new = rests old new
Keeps rests _ old new = new ≡ old

-- of a flash with this image: what an operation makes of it; a power loss between two, and starts; and one inside an operation
module _ {F : Type 0} (image : F → Bytes) (operates : F → FlashOperation → F → Type 0) (rests : F → F → Type 0) (cuts : F → FlashOperation → ℕ → F → Type 0) where
  -- what becomes of the flash: a step of the flash work makes the operation that the world names, or the power is cut inside it
  abbrev pub Leaves : Happening → Option Operation → F → F → Type 0
  Leaves Work operation old new = Works operates operation old new
  Leaves (CutInWork whole starts) operation old new = CutsIn rests cuts whole operation old new
  Leaves happening operation old new = Keeps rests happening old new

  module _ (defaults : DefaultCodes) where
    -- a step of a history is what happened, with the answer that was reported, and it leaves this flash, and its image
    pub record IsTaken (start : SimValue) (past : List Step) (happening : Happening) (reported : Reported) (old new : F) (step : Step) : Type 0 where
      pub event_is : IsAs happening reported.answer step.event
      pub answer_is : step.answer ≡ reported.answer
      pub refused_is : step.refused ≡ reported.refused
      pub image_is : step.flash.image ≡ image new
      pub flash_is : Leaves happening (operation_of defaults start past step) old new

    -- the history goes on by such a step, and the guarantee of `world` holds of the longer history
    pub record IsPromised (start : SimValue) (past : List Step) (happening : Happening) (reported : Reported) (old new : F) : Type 0 where
      pub step : Step
      pub is_taken : IsTaken start past happening reported old new step
      pub promise : Promise defaults start (step ∷ past)
      pub erases : ErasesSeldom defaults start (step ∷ past)
