use Rattle.std.proofs.Common.{◌∙◌}
use Rattle.std.proofs.Props.{props}
use Rattle.std.proofs.Math.Logic.{∥∥₁_elim}
use Rattle.descriptor_parse.proofs.WellLemmas.{well_formed}
use Rattle.descriptor_parse.proofs.ReaderLemmas.{left_all, first_is_next}
use Rattle.descriptor_parse.proofs.descriptor.Descriptor.report.Goals as goal

pub new-requires-clause-next : goal.new-requires-clause-next
new-requires-clause-next c =
    let r = c.self.inside.reports in
    rw c.deref.ensures.value (first_is_next c.args.kind c.args.id c.first.result r.fields.items r.links.items c.self.invariant.2 (c.first.ensures ∙ c.self.invariant.3 c.args.kind c.args.id))

pub returns-clause-well_formed : goal.returns-clause-well_formed
returns-clause-well_formed c = rw (← c.self.view_is) (∥∥₁_elim c.self.invariant.0 (Prim.hlevel props) (λ p. well_formed p.0 _ p.1 p.2 p.3 p.4))

pub returns-clause-all : goal.returns-clause-all
returns-clause-all c =
    let r = c.self.inside.reports in
    rw (← c.self.view_is, c.new.ensures, c.deref.ensures.value, c.deref-2.ensures.value, c.deref-3.ensures.value)
    (left_all c.args.kind c.args.id c.first.result r.fields.items r.links.items r.ranges.items c.self.invariant.2 (c.first.ensures ∙ c.self.invariant.3 c.args.kind c.args.id))
