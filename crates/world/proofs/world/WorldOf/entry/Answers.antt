use Rattle.world.proofs.Standing.{entry_shown}
use Rattle.world.proofs.world.WorldOf.entry.Goals as goal

pub returns : goal.returns
returns g c start past s =
    let t = rw (← c.self.view_is) at s in
    rw c.just.ensures
    (entry_shown g.D.Defaults.defaults start past _ c.args.layer c.args.key c.get.result s (c.get.ensures.entry _ (c.keymap.ensures.of_image _ _ t.keyboard)))
