use Rattle.keyboard.specs.Calls.{image_after, keymap}
use Rattle.keyboard.proofs.Standing.{refines_scan}
use Rattle.keyboard.proofs.keyboard.KeyboardOf.scan.Goals as goal

pub returns-clause-refines : goal.returns-clause-refines
returns-clause-refines g c start past s =
    let t = rw (← c.self.view_is) at s in
    refines_scan g.D.Defaults.defaults start past c.args.scan c.scan.new.self _ t
    (c.scan.ensures.entries _ (keymap g.D.Defaults.defaults (image_after start past)) (c.keymap.ensures.refines (image_after start past) t.now.store) t.now.keys)
