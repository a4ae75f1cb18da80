use Rattle.std.proofs.Common.{refl, false, ap}
use Rattle.world.specs.declared.event.Answer.TheVariants as answer
use Rattle.world.specs.declared.event.Event.TheVariants as event
use Rattle.world.specs.Kinds.{looks}
use Rattle.flash_theorem.specs.declared.board.Happening.TheVariants as happening
use Rattle.flash_theorem.proofs.Stepping.{plain}
use Rattle.flash_theorem.proofs.board.leds.Goals as goal

pub returns : goal.returns
returns g c host image start past s =
    rw c.just.ensures
    (plain g.D.Defaults.defaults start past _ _ host host image happening.Leds event.Leds (answer.LedsAre c.leds.result) false looks refl refl refl s (ap answer.LedsAre (c.leds.ensures _ _ s.world.keyboard), (refl, refl))
    s.world.keyboard s.world.host)
