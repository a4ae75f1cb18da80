use Rattle.std.proofs.Common.{◌∙◌}
use Rattle.layers.proofs.HeldKeys.{kept-is_some}
use Rattle.layers.proofs.held.Held.holds.Goals as goal

pub returns-clause-is : goal.returns-clause-is
returns-clause-is c = rw (← c.self.view_is, ← c.number.ensures.value, ← c.from.ensures) (c.contains.ensures ∙ kept-is_some c.self.inside.codes c.self.inside.held c.from.result)

pub returns-clause-a_key : goal.returns-clause-a_key
returns-clause-a_key c = rw c.number.ensures.value at c.number.ensures.a_key
