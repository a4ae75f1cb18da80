-- Representation: a world refines a history.
use Rattle.std.specs.Prelude.{◌≡◌, List}
use Rattle.flash_model.specs.Sim.{SimValue}
use Rattle.layers.specs.Codes.{DefaultCodes}
use Rattle.keyboard.specs.representation.Relation as keyboard_refines
use Rattle.host.specs.representation.Refines as host_refines
use Rattle.world.specs.Asked.{asked_after}
use Rattle.world.specs.Kinds.{Step}
use Rattle.world.specs.History.{session, host_calls, flash_after}
use Rattle.world.specs.Conforming.{IsConforming}
use Rattle.world.specs.representation.Value.{WorldValue}

module _ (defaults : DefaultCodes) where
  -- the keyboard refines the session's calls on the session's first image, the host for what it has heard, and the flash is
  -- the one after these steps, and what is noted is what the latest step of the flash work asked for; each event so far was
  -- answered as it had to be
  pub record Refines (start : SimValue) (past : List Step) (world : WorldValue) : Type 0 where
    pub keyboard : keyboard_refines.Refines defaults (session start past).first (session start past).past world.keyboard
    pub host : host_refines.Refines (host_calls past) world.host
    pub flash : world.flash ≡ flash_after start past
    pub asked : world.asked ≡ asked_after defaults start past
    pub answered : IsConforming defaults start past
