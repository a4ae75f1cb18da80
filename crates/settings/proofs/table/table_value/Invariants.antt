use Rattle.std.proofs.Common.{◌≡◌, length}
use Rattle.settings.specs.Table.{kept}
use Rattle.settings.proofs.table.table_value.Given as goal

abbrev pub invariant-loop-rest : goal.invariant-loop-rest
invariant-loop-rest l = kept l.rest l.id ≡ kept l.table l.id

abbrev pub decreases-loop-rest : goal.decreases-loop-rest
decreases-loop-rest l = length l.rest
