-- Representation: contracts of the world's private calls.
use Rattle.std.specs.Prelude.{◌≡◌, ℕ, Bool, ◌∷◌, ◌++◌, List, map, reverse, length, take}
use Rattle.flash_model.specs.Sim.{SimValue}
use Rattle.world.specs.declared.event.Event.{Event}
use Rattle.world.specs.declared.event.Answer.{Answer}
use Rattle.world.specs.declared.event.Reported.{Reported}
use Rattle.world.specs.Kinds.{Step}
use Rattle.world.specs.Relation.{EndsAfter}
use Rattle.world.specs.representation.Relation.{Refines}
use Rattle.world.specs.representation.Value.{WorldValue}
use Rattle.layers.specs.Codes.{DefaultCodes}

module _ (defaults : DefaultCodes) where
  -- an event is taken on top of each history that the world refined
  abbrev pub Takes : Event → WorldValue → Reported → WorldValue → Type 0
  Takes event old reported new =
      (start : SimValue) (past : List Step) → Refines defaults start past old
      → Refines defaults start (record { event = event; answer = reported.answer; flash = new.flash; refused = reported.refused } ∷ past) new

  -- a run that is over: a longer history without what follows
  pub record Went (start : SimValue) (past : List Step) (world : WorldValue) (events : List Event) (room : ℕ) (before after : List Answer) (ok : Bool) : Type 0 where
    pub steps : List Step
    pub refines : Refines defaults start (steps ++ past) world
    pub events_are : map (λ (s : Step). s.event) (reverse steps) ≡ take (length steps) events
    pub answers_are : after ≡ before ++ map (λ (s : Step). s.answer) (reverse steps)
    pub ends : EndsAfter room ok steps events
