use Rattle.std.proofs.Common.{arith}
use Rattle.world.specs.Relation.{room_for}
use Rattle.world.proofs.Running.{going_more, not_ok, went_all, went_no_room, went_refused}
use Rattle.world.proofs.world.WorldOf.take_all.Goals as goal

pub loop-event-preserved : goal.loop-event-preserved
loop-event-preserved g c = record {
  reported_so_far = λ start past s. rw (c.in_ok-push.ensures.items, c.in_ok-reserve.ensures.items)
      (going_more g.D.Defaults.defaults start past c.loop-event.event-index c.loop-event.self c.step-reported.new.self c.args.events.now c.args.answers.now.items c.loop-event.answers.items c.event-item.result c.step-reported.result c.loop-event-test.true c.event-item.is c.if-reported.false (c.loop-event.invariant.reported_so_far start past s) c.step-reported.ensures);
  counted = omega (arith, c.in_ok-push.ensures.len, c.in_ok-reserve.ensures.len, c.loop-event.invariant.counted);
  never_shrinks = omega (arith, c.in_ok-push.ensures.capacity, c.in_ok-reserve.ensures.capacity, c.loop-event.invariant.never_shrinks);
}

pub returns-in_err-reserve-clause-went : goal.returns-in_err-reserve-clause-went
returns-in_err-reserve-clause-went g c start past s =
    rw (not_ok c.from_residual.result c.from_residual.ensures.0, c.reserve.ensures.items)
    (went_no_room g.D.Defaults.defaults start past c.loop-event.event-index c.loop-event.self c.args.events.now (room_for c.args.answers.now) c.args.answers.now.items c.loop-event.answers.items c.loop-event-test.true (omega (arith, c.in_err-reserve.ensures.full, c.loop-event.invariant.counted, c.loop-event.invariant.never_shrinks)) (c.loop-event.invariant.reported_so_far start past s))

pub returns-then-reported-clause-went : goal.returns-then-reported-clause-went
returns-then-reported-clause-went g c start past s =
    rw (c.in_ok-push.ensures.items, c.in_ok-reserve.ensures.items)
    (went_refused g.D.Defaults.defaults start past c.loop-event.event-index c.loop-event.self c.step-reported.new.self c.args.events.now (room_for c.args.answers.now) c.args.answers.now.items c.loop-event.answers.items c.event-item.result c.step-reported.result c.loop-event-test.true c.event-item.is c.if-reported.true (c.loop-event.invariant.reported_so_far start past s) c.step-reported.ensures)

pub returns-clause-went : goal.returns-clause-went
returns-clause-went g c start past s =
    went_all g.D.Defaults.defaults start past c.loop-event.event-index c.loop-event.self c.args.events.now (room_for c.args.answers.now) c.args.answers.now.items c.loop-event.answers.items (omega (arith, c.loop-event-test.false, c.loop-event.auto.event-index-end)) (c.loop-event.invariant.reported_so_far start past s)
