use Rattle.std.proofs.Common.{◌∙◌}
use Rattle.debounce.specs.Samples.{down}
use Rattle.debounce.proofs.matrix.Matrix.is_down.Goals as goal

pub returns : goal.returns
unfolding down
returns c scans h = c.has_bit.ensures ∙ (let s = rw (← c.self.view_is) at h in (s.each c.args.key c.requires).down)
