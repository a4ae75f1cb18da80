use Rattle.std.proofs.Common.{arith, ◌∙◌}
use Rattle.layers.proofs.Tables.{has_defaults, refines_at_first}
use Rattle.layers.proofs.keymap.KeymapOf.set_standard.Goals as goal

pub returns-clause-refines : goal.returns-clause-refines
returns-clause-refines g c format = refines_at_first g.D.Defaults.defaults _ (has_defaults g.D.Defaults.defaults _ (c.reset.auto.codes ∙ c.self.invariant) (λ place l. c.reset.ensures.inside place (omega arith) l)) format
