use Rattle.std.proofs.Common.{arith, refl}
use Rattle.settings_log.proofs.Lost.{lost_of_best}
use Rattle.settings_log.proofs.ring.is_whole.Goals as goal

pub returns : goal.returns
returns g c = (
  λ yes. record {
    sound = λ p h. c.loop-at.invariant.sound p (omega (arith, h, c.pages-at-end.ensures.count, c.loop-at-test.false, c.loop-at.auto.at-end));
    kept = λ newest back lost. c.loop-at.invariant.kept back
        (omega (arith, lost.near, c.pages-at-end.ensures.count, c.loop-at-test.false, c.loop-at.auto.at-end))
        (lost_of_best (g.F.NorFlash.image c.args.flash.now) c.newest-newest.result newest back c.newest-newest.ensures.greatest lost);
  },
  λ whole. refl,
)
