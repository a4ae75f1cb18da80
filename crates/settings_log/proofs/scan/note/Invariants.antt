use Rattle.settings_log.specs.representation.Scan.{Passed, noted}
use Rattle.settings_log.proofs.scan.note.Given as goal

abbrev pub invariant-loop-entry : goal.invariant-loop-entry
invariant-loop-entry l = Passed (noted l.head l.place) l.entry-index l.initial.entries l.entries
