use Rattle.std.proofs.Common.{◌≡◌, take}
use Rattle.std.specs.Prelude.{filter, not}
use Rattle.report_read.specs.representation.Listed.{is_listed}
use Rattle.report_read.proofs.difference.only_in.Given as goal

abbrev pub invariant-loop-usage : goal.invariant-loop-usage
invariant-loop-usage l = l.only.items ≡ filter (λ usage. not (is_listed l.those usage)) (take l.usage-index l.these)
