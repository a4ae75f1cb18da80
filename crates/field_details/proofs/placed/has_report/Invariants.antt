use Rattle.std.proofs.Common.{◌≡◌, length}
use Rattle.std.specs.List.{list_any}
use Rattle.field_details.specs.Reports.{is_of_report}
use Rattle.field_details.proofs.placed.has_report.Given as goal

-- those that are passed are of other reports
abbrev pub invariant-loop-first : goal.invariant-loop-first
invariant-loop-first l = list_any (is_of_report l.kind l.id) l.rest ≡ list_any (is_of_report l.kind l.id) l.fn.front

abbrev pub decreases-loop-first : goal.decreases-loop-first
decreases-loop-first l = length l.rest
