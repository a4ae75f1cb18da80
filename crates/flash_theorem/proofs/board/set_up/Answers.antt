use Rattle.std.proofs.Common.{refl, false}
use Rattle.keyboard.specs.Calls.{SetUp}
use Rattle.world.specs.declared.event.Answer.TheVariants as answer
use Rattle.world.specs.declared.event.Event.TheVariants as event
use Rattle.world.specs.Kinds.{calls}
use Rattle.flash_theorem.specs.declared.board.Happening.TheVariants as happening
use Rattle.flash_theorem.proofs.Stepping.{plain}
use Rattle.flash_theorem.proofs.board.set_up.Goals as goal

pub returns-clause-takes : goal.returns-clause-takes
returns-clause-takes g c image start past s =
    rw c.just.ensures
    (plain g.D.Defaults.defaults start past _ _ _ _ image (happening.Setup c.args.packet) (event.Setup c.args.packet) answer.Ack false (calls (SetUp c.args.packet)) refl refl refl s (refl, (refl, refl))
    (c.setup.ensures.refines _ _ s.world.keyboard) (c.setup-2.ensures _ s.world.host))
