use Rattle.std.proofs.Common.{refl, false}
use Rattle.keyboard.specs.Calls.{Scanned}
use Rattle.world.specs.declared.event.Answer.TheVariants as answer
use Rattle.world.specs.declared.event.Event.TheVariants as event
use Rattle.world.specs.Kinds.{calls}
use Rattle.flash_theorem.specs.declared.board.Happening.TheVariants as happening
use Rattle.flash_theorem.proofs.Stepping.{plain}
use Rattle.flash_theorem.proofs.board.scanned.Goals as goal

pub returns-clause-takes : goal.returns-clause-takes
returns-clause-takes g c host image start past s =
    rw c.just.ensures
    (plain g.D.Defaults.defaults start past _ _ host host image (happening.Scan c.args.scan) (event.Scan c.args.scan) answer.Done false (calls (Scanned c.args.scan)) refl refl refl s (refl, (refl, refl))
    (c.scan.ensures.refines _ _ s.world.keyboard) s.world.host)
