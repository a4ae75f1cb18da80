use Rattle.std.proofs.Common.{refl, false}
use Rattle.keyboard.specs.Calls.{BusReset}
use Rattle.world.specs.declared.event.Answer.TheVariants as answer
use Rattle.world.specs.declared.event.Event.TheVariants as event
use Rattle.world.specs.Kinds.{calls}
use Rattle.flash_theorem.specs.declared.board.Happening.TheVariants as happening
use Rattle.flash_theorem.proofs.Stepping.{plain}
use Rattle.flash_theorem.proofs.board.bus_reset.Goals as goal

pub returns-clause-takes : goal.returns-clause-takes
returns-clause-takes g c image start past s =
    rw c.just.ensures
    (plain g.D.Defaults.defaults start past _ _ _ _ image happening.BusReset event.BusReset answer.Done false (calls BusReset) refl refl refl s (refl, (refl, refl))
    (c.bus_reset.ensures.refines _ _ s.world.keyboard) (c.lose.ensures _ s.world.host))
