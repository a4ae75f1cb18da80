use Rattle.page_turnover.proofs.Turns.{begun}
use Rattle.page_turnover.proofs.log.Log.begin_turn.Goals as goal

pub returns-clause-describes : goal.returns-clause-describes
returns-clause-describes c image d =
    rw (← c.self.view_is) at (begun image c.args.self.now d c.in_ok-may_turn.ensures)
