use Rattle.std.proofs.Common.{◌≡◌, true, is_some, sym, ◌∙◌}
use Rattle.layers.specs.representation.HeldRelation.{kept}
use Rattle.layers.proofs.HeldKeys.{kept-some_is, kept-none_is}
use Rattle.layers.proofs.held.Held.code.Goals as goal

pub returns-then-holds : goal.returns-then-holds
returns-then-holds c past h =
    let there : is_some (kept c.self.inside.codes c.self.inside.held c.args.key) ≡ true = rw (← c.self.view_is) at (sym c.holds.ensures.is ∙ c.if-holds.true) in
    rw c.number.ensures.value (sym (kept-some_is c.self.inside.codes c.self.inside.held c.args.key _ (rw (c.self.invariant.0, ← c.number.ensures.value) c.number.ensures.a_key) there) ∙ (rw (← c.self.view_is) at h.each) c.args.key (rw c.number.ensures.value at c.number.ensures.a_key))

pub returns-else-holds : goal.returns-else-holds
returns-else-holds c past h =
    sym (kept-none_is c.args.self.now.codes c.args.self.now.held c.args.key (sym c.holds.ensures.is ∙ c.if-holds.false)) ∙ h.each c.args.key c.holds.ensures.a_key
