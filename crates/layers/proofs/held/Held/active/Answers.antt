use Rattle.std.proofs.Common.{◌∙◌}
use Rattle.layers.specs.Held.{code}
use Rattle.layers.specs.representation.HeldRelation.{kept}
use Rattle.layers.proofs.HeldKeys.{is_active-same}
use Rattle.layers.proofs.held.Held.active.Goals as goal

pub returns-then-self : goal.returns-then-self
returns-then-self c past h =
    c.is_active.ensures (kept c.self.inside.codes c.self.inside.held) (c.self.invariant.3 c.if-self.true).layers
    ∙ is_active-same (kept c.self.inside.codes c.self.inside.held) (code past) c.args.layer (rw (← c.self.view_is) at h.each)

pub returns-else-self : goal.returns-else-self
returns-else-self c past h =
    c.is_active-else-self.ensures (kept c.args.self.now.codes c.args.self.now.held) c.names.ensures.layers
    ∙ is_active-same (kept c.args.self.now.codes c.args.self.now.held) (code past) c.args.layer h.each
