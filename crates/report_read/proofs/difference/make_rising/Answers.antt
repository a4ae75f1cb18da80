use Rattle.host_extract.proofs.Pressing.{once_rising, once_members}
use Rattle.report_read.proofs.difference.make_rising.Goals as goal

pub returns : goal.returns
returns c = record {
  rising = once_rising c.args.usages.now.items c.sort_unstable.new.self.items c.dedup.new.self.items c.sort_unstable.ensures.permutation c.sort_unstable.ensures.sorted c.dedup.ensures.filtered;
  members = once_members c.args.usages.now.items c.sort_unstable.new.self.items c.dedup.new.self.items c.sort_unstable.ensures.permutation c.sort_unstable.ensures.sorted c.dedup.ensures.filtered;
}
