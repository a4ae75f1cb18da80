use Rattle.std.proofs.Common.{rules}
use Rattle.layers.proofs.keymap.KeymapOf.next_changed.Goals as goal

pub loop-place-init : goal.loop-place-init
loop-place-init g c = search rules
