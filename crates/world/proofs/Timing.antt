-- A command is settled, or fails, within the most steps that one takes.
use Rattle.std.proofs.Common.{List, [], ◌∷◌}
use Rattle.flash_model.specs.Sim.{SimValue}
use Rattle.layers.specs.Codes.{DefaultCodes}
use Rattle.keyboard.proofs.Timing.{in_time}
use Rattle.world.specs.Bounded.{StaysInTime}
use Rattle.world.specs.History.{session, EachStep}
use Rattle.world.specs.Kinds.{Step}
use Rattle.world.specs.Conforming.{IsAnswered}
use Rattle.world.proofs.Here.{here}

module _ (defaults : DefaultCodes) where
  pub stays_in_time : (start : SimValue) (past : List Step) → EachStep (IsAnswered defaults) start past → EachStep (StaysInTime defaults) start past
  stays_in_time start [] h = tt
  stays_in_time start (step ∷ before) h =
      (in_time defaults (session start (step ∷ before)).first (session start (step ∷ before)).past (here defaults start (step ∷ before) h).conforming, stays_in_time start before h.1)
