use Rattle.std.proofs.Common.{◌≡◌, Bool, List, length}
use Rattle.report_read.specs.representation.Plans.{AreFilled}
use Rattle.report_read.proofs.reader.empty_plans.Given as goal

abbrev pub invariant-loop-id : goal.invariant-loop-id
invariant-loop-id l = (length l.by_id.items ≡ l.id) × ((null_states : List Bool) → AreFilled l.descriptor null_states 0 l.by_id.items)
