use Rattle.std.proofs.Common.{◌∷◌, ◌++◌, arith, refl}
use Rattle.keyboard.specs.Calls.{Worked}
use Rattle.keyboard.proofs.Lasting.{for_ever}
use Rattle.flash_theorem.proofs.run.Goals as goal

pub loop-step-preserved : goal.loop-step-preserved
loop-step-preserved g c = record {
  runs_on = c.work-work.ensures.runs_on;
  whole = λ start past s e h.
      let was = c.loop-step.invariant.whole start past s e h in
      let f = for_ever g.F.NorFlash.is_faultless c.work-work.result c.loop-step.flash c.work-work.new.flash c.work-work.ensures.untouched c.work-work.ensures.faultless was.3 in (
        Worked c.work-work.result (g.F.NorFlash.image c.work-work.new.flash) ∷ was.0,
        (f.1, was.1),
        omega (arith, was.2),
        f.0,
        c.work-work.ensures.refines start (was.0 ++ past) was.4 was.5,
        refl,
      );
}
