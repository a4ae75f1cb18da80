-- Trusted: how a list of events goes on from a history, on a flash that can be cut.
use Rattle.shapes.specs.Shapes.{Bytes}
use Rattle.std.specs.Prelude.{◌≡◌, ◌<◌, ℕ, List, [], ◌∷◌, ◌++◌, map, reverse, length, take}
use Rattle.flash_model.specs.FlashOperation.{FlashOperation}
use Rattle.flash_model.specs.Sim.{SimValue}
use Rattle.host.specs.declared.gatherer.Host.{Host}
use Rattle.layers.specs.Codes.{DefaultCodes}
use Rattle.keyboard.specs.representation.Value.{KeyboardValue}
use Rattle.world.specs.Erases.{ErasesSeldom}
use Rattle.world.specs.Kinds.{Step}
use Rattle.world.specs.Promise.{Promise}
use Rattle.flash_theorem.specs.declared.board.Happening.{Happening}
use Rattle.flash_theorem.specs.declared.board.Reported.{Reported}
use Rattle.flash_theorem.specs.Happenings.{IsTaken}
use Rattle.flash_theorem.specs.representation.Relation.{Refines}

-- an event that was taken: what happened, what was reported, the step of the history, and the flash after it
pub record Taken (F : Type 0) : Type 0 where
  pub happening : Happening
  pub reported : Reported
  pub step : Step
  pub flash : F

-- the steps of such events
abbrev pub steps_of : {F : Type 0} → List (Taken F) → List Step
steps_of [] = []
steps_of (last ∷ before) = last.step ∷ steps_of before

-- the flash after them, newest first
abbrev pub flash_of : {F : Type 0} → F → List (Taken F) → F
flash_of old [] = old
flash_of old (last ∷ before) = last.flash

module _ {F : Type 0} (image : F → Bytes) (operates : F → FlashOperation → F → Type 0) (rests : F → F → Type 0) (cuts : F → FlashOperation → ℕ → F → Type 0) (defaults : DefaultCodes) where
  -- each event was taken on the history, and on the flash, that those before it left
  abbrev pub EachTaken : SimValue → List Step → F → List (Taken F) → Type 0
  EachTaken start past old [] = Unit {0}
  EachTaken start past old (last ∷ before) =
      IsTaken image operates rests cuts defaults start (steps_of before ++ past) last.happening last.reported (flash_of old before) last.flash last.step
      × EachTaken start past old before

  -- all events were taken in order, what was told of each is appended, keyboard, host and flash stand for the longer history, and the
  -- guarantee of `world` holds of it
  pub record AllTaken (start : SimValue) (past : List Step) (keyboard : KeyboardValue) (host : Host) (old new : F) (happenings : List Happening) (before after : List Reported) : Type 0 where
    pub taken : List (Taken F)
    pub each : EachTaken start past old taken
    pub happened : map (λ (t : Taken F). t.happening) (reverse taken) ≡ happenings
    pub reported : after ≡ before ++ map (λ (t : Taken F). t.reported) (reverse taken)
    pub flash_is : flash_of old taken ≡ new
    pub refines : Refines defaults start (steps_of taken ++ past) keyboard host (image new)
    pub promise : Promise defaults start (steps_of taken ++ past)
    pub erases : ErasesSeldom defaults start (steps_of taken ++ past)

  -- so were those before a power loss behind which the flash did not start
  pub record AllTakenBefore (start : SimValue) (past : List Step) (old : F) (happenings : List Happening) (before after : List Reported) : Type 0 where
    pub count : ℕ
    pub within : count < length happenings
    pub keyboard : KeyboardValue
    pub host : Host
    pub flash : F
    pub all : AllTaken start past keyboard host old flash (take count happenings) before after
