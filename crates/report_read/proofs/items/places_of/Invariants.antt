use Rattle.std.proofs.Common.{◌≡◌, ◌++◌}
use Rattle.std.specs.Prelude.{map}
use Rattle.report_read.specs.Items.{places_of}
use Rattle.report_read.proofs.items.places_of.Given as goal

-- what was listed, and then what is left
abbrev pub invariant-loop-placed : goal.invariant-loop-placed
invariant-loop-placed l = l.places.items ++ map (λ p. p.0) l.placed-iterator ≡ places_of l.details.fields.items
