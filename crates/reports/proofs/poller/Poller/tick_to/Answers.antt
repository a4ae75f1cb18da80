use Rattle.std.proofs.Common.{◌∷◌, ◌∙◌}
use Rattle.layers.specs.Usages.{has_key, has_consumer}
use Rattle.reports.specs.Calls.{ticked}
use Rattle.reports.specs.Wanted.{wanted}
use Rattle.reports.proofs.Made.{same_made_for}
use Rattle.reports.proofs.poller.Poller.tick_to.Goals as goal

pub returns-clause-refines : goal.returns-clause-refines
returns-clause-refines c past before m s =
    let now = wanted (has_key c.args.now.now) (has_consumer c.args.now.now) in
    record {
      rule = c.push_changes.ensures.rule (ticked c.args.protocol before now ∷ past) (c.grow_older.ensures.rule past c.args.protocol before now s.rule);
      queue = c.push_changes.ensures.queue past before (same_made_for c.args.protocol before _ _ c.grow_older.ensures.made m) (c.grow_older.ensures.queue ∙ s.queue);
    }
