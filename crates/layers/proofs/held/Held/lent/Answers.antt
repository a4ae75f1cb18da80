use Rattle.std.proofs.Common.{◌≡◌, true, ◌∙◌}
use Rattle.layers.specs.Codes.{names_key_usage, names_consumer}
use Rattle.layers.specs.Held.{code}
use Rattle.layers.specs.representation.HeldRelation.{kept}
use Rattle.layers.proofs.HeldKeys.{any_has-same}
use Rattle.layers.proofs.held.Held.lent.Goals as goal

pub returns-clause-keys : goal.returns-clause-keys
returns-clause-keys c past usage h =
    let named : c.self.inside.named ≡ true = rw (← c.self.view_is) at c.requires in
    (c.self.invariant.3 named).keys usage ∙ any_has-same (kept c.self.inside.codes c.self.inside.held) (code past) (names_key_usage usage) (rw (← c.self.view_is) at h.each)

pub returns-clause-consumer : goal.returns-clause-consumer
returns-clause-consumer c past usage h =
    let named : c.self.inside.named ≡ true = rw (← c.self.view_is) at c.requires in
    (c.self.invariant.3 named).consumer usage ∙ any_has-same (kept c.self.inside.codes c.self.inside.held) (code past) (names_consumer usage) (rw (← c.self.view_is) at h.each)
