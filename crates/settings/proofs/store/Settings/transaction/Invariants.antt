use Rattle.settings.specs.Left.{left}
use Rattle.settings.specs.representation.Whole.{SoFar}
use Rattle.settings.proofs.store.Settings.transaction.Given as goal

abbrev pub invariant-loop-self : goal.invariant-loop-self
invariant-loop-self g l =
    let f = g.F.NorFlash in
    SoFar f.image f.operations f.operates f.is_faultless l.changes (left (f.image l.flash) l.changes l.self) l.fn.flash l.self l.flash

abbrev pub decreases-loop-self : goal.decreases-loop-self
decreases-loop-self g l = left (g.F.NorFlash.image l.flash) l.changes l.self
