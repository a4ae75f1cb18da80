use Rattle.std.proofs.Common.{◌≡◌, Some}
use Rattle.page_turnover.proofs.Describing.{room_of_tail, tail_of_room}
use Rattle.page_turnover.proofs.log.Log.room.Goals as goal

pub returns-in-Some-clause-room : goal.returns-in-Some-clause-room
returns-in-Some-clause-room c image d =
    let e : c.args.self.now.active ≡ Some c.in-Some.active = rw (← c.self.view_is) c.in-Some.is in (
      λ t. room_of_tail image c.args.self.now c.in-Some.active d e (c.has_room.ensures.0 t),
      λ r. c.has_room.ensures.1 (tail_of_room image c.args.self.now c.in-Some.active d e r),
    )
