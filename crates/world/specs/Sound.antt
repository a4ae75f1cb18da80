-- Trusted: slot 0 of each page stays sound.
use Rattle.std.specs.Prelude.{◌≡◌, List}
use Rattle.flash_model.specs.Sim.{SimValue}
use Rattle.page_turnover.specs.Usable.{IsUsable}
use Rattle.world.specs.Kinds.{Step}
use Rattle.world.specs.History.{flash_after, image_after}

-- while each is sound, each stays so, whatever is torn; where one is not, no operation is ever made: bytes, counts and what
-- is armed stay as they were
pub record KeepsSound (start : SimValue) (past : List Step) : Type 0 where
  pub sound : IsUsable start.image → IsUsable (image_after start past)
  pub untouched : (IsUsable start.image → ⊥) → flash_after start past ≡ start
