use Rattle.settings_log.specs.representation.Scan.{EachEntry, IsReading, Waits}
use Rattle.settings_log.proofs.scan.find_on.Given as goal

abbrev pub invariant-loop-slot : goal.invariant-loop-slot
invariant-loop-slot g l = Waits l.pending × EachEntry (IsReading (g.F.NorFlash.image l.flash) l.page l.slot l.pending) l.fn.entries l.entries
