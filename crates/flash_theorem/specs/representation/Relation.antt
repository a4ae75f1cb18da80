-- Representation: a keyboard with its host, on a flash that has this image, refines a history of the world.
use Rattle.shapes.specs.Shapes.{Bytes}
use Rattle.std.specs.Prelude.{◌≡◌, Option, None, List, ◌∷◌}
use Rattle.flash_model.specs.Sim.{SimValue}
use Rattle.host.specs.declared.gatherer.Host.{Host}
use Rattle.layers.specs.Codes.{DefaultCodes}
use Rattle.page_turnover.specs.declared.operation.Operation.{Operation as FlashStep}
use Rattle.keyboard.specs.Commands.{working}
use Rattle.keyboard.specs.representation.Value.{KeyboardValue}
use Rattle.world.specs.declared.injector.Operation.{Operation}
use Rattle.world.specs.Erases.{next_in}
use Rattle.world.specs.History.{Session, session, flash_after}
use Rattle.world.specs.Kinds.{Step}
use Rattle.world.specs.representation.Relation as world
use Rattle.flash_theorem.specs.declared.board.Happening.{Happening}
use Rattle.flash_theorem.specs.declared.board.Reported.{Reported}
use Rattle.flash_theorem.specs.Happenings.{IsAs}

module _ (defaults : DefaultCodes) where
  -- so does a world with this keyboard and this host, whose flash has the same image, and of which nothing is armed
  pub record Refines (start : SimValue) (past : List Step) (keyboard : KeyboardValue) (host : Host) (image : Bytes) : Type 0 where
    pub asked : Option Operation
    pub world : world.Refines defaults start past (record { keyboard = keyboard; host = host; flash = flash_after start past; asked = asked })
    pub image_is : (flash_after start past).image ≡ image
    pub unarmed : (flash_after start past).armed ≡ None

  -- the next operation of the command at work, if one works
  abbrev pub next_of : SimValue → List Step → Option FlashStep
  next_of start past =
      (let now : Session = session start past in next_in defaults now (working defaults now.first now.past))

  -- the history goes on by a step: it is what happened, with the answer that was reported, and leaves this image
  pub record GoesOn (start : SimValue) (past : List Step) (happening : Happening) (reported : Reported) (keyboard : KeyboardValue) (host : Host) (image : Bytes) : Type 0 where
    pub step : Step
    pub event_is : IsAs happening reported.answer step.event
    pub answer_is : step.answer ≡ reported.answer
    pub refused_is : step.refused ≡ reported.refused
    pub refines : Refines start (step ∷ past) keyboard host image

  -- so from each history that keyboard, host and flash refined
  abbrev pub Takes : Happening → KeyboardValue → Host → Bytes → Reported → KeyboardValue → Host → Bytes → Type 0
  Takes happening keyboard host image reported next_keyboard next_host next_image =
      (start : SimValue) (past : List Step) → Refines start past keyboard host image → GoesOn start past happening reported next_keyboard next_host next_image
