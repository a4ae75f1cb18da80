use Rattle.descriptor_parse.specs.Descriptor.{usage_list}
use Rattle.report_write.proofs.Knowing.{known_from}
use Rattle.report_write.proofs.array.place_for.Goals as goal

pub returns-in-Some-found-clause-known : goal.returns-in-Some-found-clause-known
returns-in-Some-found-clause-known c =
    known_from c.args.declared.now.field (usage_list c.args.declared.now.ranges.now) c.args.bytes.now c.args.marks.now c.args.known.now.free
    c.args.known.now.named.items c.in-Some-found.place c.requires.known c.in-Some-found.ensures.before
