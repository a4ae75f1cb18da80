use Rattle.settings_log.specs.representation.Scan.{Passed, come}
use Rattle.settings_log.proofs.scan.come_in_force.Given as goal

abbrev pub invariant-loop-entry : goal.invariant-loop-entry
invariant-loop-entry l = Passed (come) l.entry-index l.initial.entries l.entries
