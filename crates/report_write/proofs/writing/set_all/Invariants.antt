use Rattle.report_write.specs.representation.Known.{IsKnownOf}
use Rattle.report_write.proofs.SettingsSet.{AreAfter}
use Rattle.report_write.proofs.writing.set_all.Given as goal

abbrev pub invariant-loop-number : goal.invariant-loop-number
invariant-loop-number l =
    AreAfter l.descriptor l.kept l.settings l.fn.bytes l.fn.marks l.number l.bytes l.marks
    × IsKnownOf l.descriptor l.kept l.bytes l.marks l.known.field l.known.free l.known.named.items
