use Rattle.field_values.proofs.Listing.{IsPast}
use Rattle.field_values.proofs.list.number_in.Given as goal

abbrev pub invariant-loop-place : goal.invariant-loop-place
invariant-loop-place l = IsPast l.ranges l.usage l.place
