use Rattle.key_reports.proofs.Standing.{made_for_held}
use Rattle.key_reports.proofs.keys.make_anew.Goals as goal

pub returns-clause-made : goal.returns-clause-made
returns-clause-made c past h =
    made_for_held past c.args.protocol c.args.held.now _ _ _ h (record { keys = c.lent.ensures.keys; consumer = c.lent.ensures.consumer }) c.make.ensures.made
