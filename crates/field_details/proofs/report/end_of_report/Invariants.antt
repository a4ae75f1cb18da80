use Rattle.std.proofs.Common.{◌≡◌, length}
use Rattle.field_details.specs.representation.Relation.{end_in}
use Rattle.field_details.proofs.report.end_of_report.Given as goal

-- those behind are of other reports
abbrev pub invariant-loop-last : goal.invariant-loop-last
invariant-loop-last l = end_in l.kind l.id l.rest ≡ end_in l.kind l.id l.fn.reported

abbrev pub decreases-loop-last : goal.decreases-loop-last
decreases-loop-last l = length l.rest
