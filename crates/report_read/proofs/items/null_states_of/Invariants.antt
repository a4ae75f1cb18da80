use Rattle.std.proofs.Common.{◌≡◌, ◌++◌}
use Rattle.std.specs.Prelude.{map}
use Rattle.report_read.specs.Items.{can_be_null, null_states_of}
use Rattle.report_read.proofs.items.null_states_of.Given as goal

-- what was listed, and then what is left
abbrev pub invariant-loop-placed : goal.invariant-loop-placed
invariant-loop-placed l = l.null_states.items ++ map (λ p. can_be_null p.1) l.placed-iterator ≡ null_states_of l.details.fields.items
