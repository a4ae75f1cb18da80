use Rattle.std.proofs.Common.{◌∙◌}
use Rattle.layers.specs.Codes.{names_key_usage, names_consumer}
use Rattle.layers.specs.Held.{code}
use Rattle.layers.specs.representation.HeldRelation.{kept}
use Rattle.layers.proofs.HeldKeys.{any_has-same}
use Rattle.layers.proofs.held.Held.usages.Goals as goal

pub returns-then-self-clause-keys : goal.returns-then-self-clause-keys
returns-then-self-clause-keys c past usage h =
    (c.self.invariant.3 c.if-self.true).keys usage ∙ any_has-same (kept c.self.inside.codes c.self.inside.held) (code past) (names_key_usage usage) (rw (← c.self.view_is) at h.each)

pub returns-then-self-clause-consumer : goal.returns-then-self-clause-consumer
returns-then-self-clause-consumer c past usage h =
    (c.self.invariant.3 c.if-self.true).consumer usage ∙ any_has-same (kept c.self.inside.codes c.self.inside.held) (code past) (names_consumer usage) (rw (← c.self.view_is) at h.each)

pub returns-else-self-clause-keys : goal.returns-else-self-clause-keys
returns-else-self-clause-keys c past usage h =
    c.names-usages.ensures.keys usage ∙ any_has-same (kept c.args.self.now.codes c.args.self.now.held) (code past) (names_key_usage usage) h.each

pub returns-else-self-clause-consumer : goal.returns-else-self-clause-consumer
returns-else-self-clause-consumer c past usage h =
    c.names-usages.ensures.consumer usage ∙ any_has-same (kept c.args.self.now.codes c.args.self.now.held) (code past) (names_consumer usage) h.each
