use Rattle.descriptor_parse.proofs.descriptor.Descriptor.new.Goals as goal

pub invariant_of-result : goal.invariant_of-result
invariant_of-result c = (
  rw c.link.ensures.same c.requires.known,
  rw (c.link.ensures.ends, c.link.ensures.ranges, c.link.ensures.counts) c.requires.counted,
  c.link.ensures.nexts,
  c.link.ensures.first,
)
