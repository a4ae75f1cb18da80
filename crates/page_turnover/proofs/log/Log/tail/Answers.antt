use Rattle.page_turnover.proofs.Describing.{held_active}
use Rattle.page_turnover.proofs.log.Log.tail.Goals as goal

pub returns-in-Some : goal.returns-in-Some
returns-in-Some c image d =
    let h = held_active image c.args.self.now c.in-Some.active d (rw (← c.self.view_is) c.in-Some.is) in
    rw h.is_active h.is_tail
