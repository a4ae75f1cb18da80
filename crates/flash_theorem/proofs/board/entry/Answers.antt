use Rattle.flash_theorem.proofs.Stepping.{entry_goes_on}
use Rattle.flash_theorem.proofs.board.entry.Goals as goal

pub returns : goal.returns
returns g c host image start past s =
    rw c.just.ensures
    (entry_goes_on g.D.Defaults.defaults start past _ host image c.args.layer c.args.key c.get.result s (c.get.ensures.entry _ (c.keymap.ensures.of_image _ _ s.world.keyboard)))
