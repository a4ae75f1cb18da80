use Rattle.std.proofs.Props.{props}
use Rattle.std.proofs.Math.Logic.{∥∥₁_elim}
use Rattle.descriptor_parse.proofs.WellLemmas.{well_formed}
use Rattle.descriptor_parse.proofs.descriptor.Descriptor.fields.Goals as goal

pub returns-clause-well_formed : goal.returns-clause-well_formed
returns-clause-well_formed c = rw (← c.self.view_is) (∥∥₁_elim c.self.invariant.0 (Prim.hlevel props) (λ p. well_formed p.0 _ p.1 p.2 p.3 p.4))
