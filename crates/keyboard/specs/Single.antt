-- Trusted: what a session is given by: its calls without their answers, and without the images of its flash work.
use Rattle.shapes.specs.Shapes.{Bytes}
use Rattle.std.specs.Prelude.{◌≡◌, ◌≢◌, None, Some, List, [], ◌∷◌, slice_get}
use Rattle.layers.specs.Codes.{DefaultCodes}
use Rattle.layers.specs.declared.command.Command.{Command}
use Rattle.page_turnover.specs.declared.operation.Operation.{Operation}
use Rattle.page_turnover.specs.Next.{MayMake}
use Rattle.control_ep.specs.declared.answer.EpAnswer.TheVariants.{Nak}
use Rattle.keymap_store.specs.declared.store.Work.TheVariants.{Idle, Failed}
use Rattle.keymap_store.specs.Operations.{operations_of}
use Rattle.keyboard.specs.Bounded.{steps_since, accepted_image}
use Rattle.keyboard.specs.Calls.{Call, Out, In, Polled, Worked, image_after}
use Rattle.keyboard.specs.Commands.{working}

-- a call as it was made, whatever it was answered; a step of the flash work by the image that it left
abbrev pub unanswered : Call → Call
unanswered (Out packet answer) = Out packet Nak
unanswered (In answer) = In Nak
unanswered (Polled answer) = Polled None
unanswered (Worked work image) = Worked Idle image
unanswered call = call

-- a call with its answer, whatever image it left
abbrev pub without_image : Call → Call
without_image (Worked work image) = Worked work []
without_image call = call

-- no step of the flash work failed
abbrev pub NoneFails : List Call → Type 0
NoneFails [] = Unit {0}
NoneFails (Worked work image ∷ before) = (work ≢ Failed) × NoneFails before
NoneFails (_ ∷ before) = NoneFails before

module _ (defaults : DefaultCodes) where
  -- the next operation of the command at work, so many of whose operations were made as there were steps for it, may leave this
  -- image where it is torn
  pub record MayBeTorn (start : Bytes) (before : List Call) (new : Bytes) : Type 0 where
    pub command : Command
    pub is_working : working defaults start before ≡ Some command
    pub operation : Operation
    pub is_next : slice_get (operations_of defaults (accepted_image start before) command) (steps_since before) ≡ Some operation
    pub torn : MayMake (image_after start before) operation new
