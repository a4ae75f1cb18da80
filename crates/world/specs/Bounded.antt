-- Trusted: how many steps of the flash work a command takes.
use Rattle.std.specs.Prelude.{List, ◌∷◌}
use Rattle.flash_model.specs.Sim.{SimValue}
use Rattle.layers.specs.Codes.{DefaultCodes}
use Rattle.keyboard.specs.Bounded.{IsInTime}
use Rattle.world.specs.Kinds.{Step}
use Rattle.world.specs.History.{session}

module _ (defaults : DefaultCodes) where
  -- after each step: while a command works, fewer steps of the flash work than the most were made for it
  abbrev pub StaysInTime : SimValue → List Step → Step → Type 0
  StaysInTime start before step = IsInTime defaults (session start (step ∷ before)).first (session start (step ∷ before)).past
