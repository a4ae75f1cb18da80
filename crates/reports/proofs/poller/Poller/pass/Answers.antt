use Rattle.std.proofs.Common.{sym, ◌∙◌}
use Rattle.reports.proofs.Waiting.{queue-same}
use Rattle.reports.proofs.poller.Poller.pass.Goals as goal

pub returns-clause-refines : goal.returns-clause-refines
returns-clause-refines c past protocol bytes s = record {
  rule = c.grow_older.ensures.rule past protocol bytes bytes s.rule;
  queue = c.grow_older.ensures.queue ∙ s.queue ∙ sym (queue-same past protocol bytes);
}
