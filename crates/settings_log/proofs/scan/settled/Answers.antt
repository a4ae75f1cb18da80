use Rattle.std.proofs.Common.{slice_index_or}
use Rattle.settings_log.proofs.Slots.{comes_all}
use Rattle.settings_log.proofs.scan.settled.Goals as goal

pub returns-then-pending-clause-same : goal.returns-then-pending-clause-same
returns-then-pending-clause-same c = rw c.in-Some.is (record {
  same_length = c.come_in_force.ensures.same_length;
  each = λ k d l. comes_all c.in-Some.pending (slice_index_or c.args.entries.now k d) (slice_index_or c.come_in_force.new.entries k d) c.if-pending-eq0.true c.if-pending.true (c.come_in_force.ensures.each k d l);
})
