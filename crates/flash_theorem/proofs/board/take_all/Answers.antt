use Rattle.std.proofs.Common.{arith}
use Rattle.std.proofs.lemmas.List.{take_all}
use Rattle.flash_theorem.proofs.Running.{fits, going_more, went_all, went_before}
use Rattle.flash_theorem.proofs.board.take_all.Goals as goal

pub loop-happening-preserved : goal.loop-happening-preserved
loop-happening-preserved g c =
    let pushed = fits c.push.result _ _ c.push.ensures.full (omega (arith, c.requires.room, c.loop-happening-test.true, c.loop-happening.invariant.counted, c.loop-happening.invariant.never_shrinks)) in
    record {
      runs_on = c.in-Ok.ensures.runs_on;
      taken_so_far = λ start past s. rw (c.push.ensures.items, pushed)
          (going_more g.D.Defaults.defaults g.F.NorFlash.image g.F.NorFlash.operates g.F.RestartableFlash.rests g.F.RestartableFlash.cuts start past c.loop-happening.happening-index _ _ _ _ _ _ _ c.args.happenings.now c.args.reported.now.items c.loop-happening.reported.items c.happening-item.result _
          c.loop-happening-test.true c.happening-item.is (c.loop-happening.invariant.taken_so_far start past s) c.in-Ok.ensures.takes c.in-Ok.ensures.leaves);
      counted = rw (c.push.ensures.len, pushed) (omega (arith, c.loop-happening.invariant.counted));
      never_shrinks = omega (arith, c.push.ensures.capacity, c.loop-happening.invariant.never_shrinks);
    }

pub returns-in-Err-clause-promise : goal.returns-in-Err-clause-promise
returns-in-Err-clause-promise g c start past s =
    went_before g.D.Defaults.defaults g.F.NorFlash.image g.F.NorFlash.operates g.F.RestartableFlash.rests g.F.RestartableFlash.cuts start past c.loop-happening.happening-index _ _ _ _ c.args.happenings.now _ _
    c.loop-happening-test.true (c.loop-happening.invariant.taken_so_far start past s)

pub returns-clause-promise : goal.returns-clause-promise
returns-clause-promise g c start past s =
    went_all g.D.Defaults.defaults g.F.NorFlash.image g.F.NorFlash.operates g.F.RestartableFlash.rests g.F.RestartableFlash.cuts start past c.loop-happening.happening-index _ _ _ _ c.args.happenings.now _ _
    (take_all _ _ (omega (arith, c.loop-happening-test.false))) (c.loop-happening.invariant.taken_so_far start past s)
