-- Trusted: how a run goes on from a history, and how it ends.
use Rattle.std.specs.Prelude.{◌≡◌, ◌<◌, ◌≤◌, ◌-◌, ℕ, Vec, vec_len, vec_capacity, Bool, true, false, List, [], ◌∷◌, ◌++◌, map, reverse, length, take}
use Rattle.flash_model.specs.Sim.{SimValue}
use Rattle.world.specs.declared.event.Event.{Event}
use Rattle.world.specs.declared.event.Answer.{Answer}
use Rattle.world.specs.Kinds.{Step}
use Rattle.world.specs.History.{flash_after}
use Rattle.world.specs.representation.Value.{WorldValue}
use Rattle.world.specs.representation.Relation.{Refines}
use Rattle.layers.specs.Codes.{DefaultCodes}

-- how many more answers there is room for, before memory is asked for again
abbrev pub room_for : {X Z : Type 0} → Vec X Z → ℕ
room_for answers = vec_capacity answers - vec_len answers

-- in none of these steps was the host refused memory
abbrev pub NoneRefused : List Step → Type 0
NoneRefused [] = Unit {0}
NoneRefused (step ∷ before) = (step.refused ≡ false) × NoneRefused before

-- a run that answers an error: the room that there was for answers before it is used up, and there was none for the answer of
-- the next event, which was not taken; or the host was refused memory in the last one taken
pub data StopsAfter (room : ℕ) (steps : List Step) (events : List Event) : Type 0 where
  no_room : room ≤ length steps → length steps < length events → NoneRefused steps → StopsAfter room steps events
  host_refused : (last : Step) → (before : List Step) → steps ≡ last ∷ before → last.refused ≡ true → NoneRefused before → StopsAfter room steps events

-- a run that answers Ok has taken all events
abbrev pub EndsAfter : ℕ → Bool → List Step → List Event → Type 0
EndsAfter room true steps events = (length steps ≡ length events) × NoneRefused steps
EndsAfter room false steps events = StopsAfter room steps events

module _ (defaults : DefaultCodes) where
  -- a history goes on by steps, newest first: they are the events that were taken, the answers appended are theirs, the flash
  -- is the one after them, the world stands for the longer history, and P holds of it
  pub record LongerHistory (P : SimValue → List Step → Type 0) (start : SimValue) (past : List Step) (world : WorldValue) (events : List Event) (room : ℕ) (before after : List Answer) (ok : Bool) : Type 0 where
    pub steps : List Step
    pub refines : Refines defaults start (steps ++ past) world
    pub flash_is : world.flash ≡ flash_after start (steps ++ past)
    pub events_are : map (λ (s : Step). s.event) (reverse steps) ≡ take (length steps) events
    pub answers_are : after ≡ before ++ map (λ (s : Step). s.answer) (reverse steps)
    pub ends : EndsAfter room ok steps events
    pub holds : P start (steps ++ past)

  -- from each history that the world stood for, the run makes such a longer one
  abbrev pub Runs : (SimValue → List Step → Type 0) → WorldValue → WorldValue → List Event → ℕ → List Answer → List Answer → Bool → Type 0
  Runs P old new events room before after ok =
      (start : SimValue) (past : List Step) → Refines defaults start past old → LongerHistory P start past new events room before after ok
