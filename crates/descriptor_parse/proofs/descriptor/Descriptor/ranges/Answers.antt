use Rattle.descriptor_parse.proofs.ReaderLemmas.{link_part, no_link_part}
use Rattle.descriptor_parse.proofs.descriptor.Descriptor.ranges.Goals as goal

pub returns-in_default : goal.returns-in_default
returns-in_default c = rw (← c.self.view_is) (no_link_part c.self.inside.reports.links.items c.self.inside.reports.ranges.items c.args.field (rw c.deref.ensures.value at c.in_default.ensures.lookup.3))

pub returns : goal.returns
returns c =
    rw (← c.self.view_is, c.part.ensures, c.deref-2.ensures.value)
    (link_part c.self.inside.reports.links.items c.self.inside.reports.ranges.items c.args.field c.first_range.result c.in-Some.link.now
    (rw c.deref.ensures.value at c.in-Some.ensures.lookup.3.0) (rw c.deref.ensures.value at c.in-Some.ensures.lookup.1) (rw c.deref-3.ensures.value at c.first_range.ensures))
