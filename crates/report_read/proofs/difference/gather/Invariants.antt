use Rattle.std.proofs.Common.{◌≡◌, ◌++◌}
use Rattle.report_read.specs.Changes.{on_by_all}
use Rattle.report_read.proofs.difference.gather.Given as goal

-- what was gathered, and then what the values that are left say
abbrev pub invariant-loop-value : goal.invariant-loop-value
invariant-loop-value l = l.usages.items ++ on_by_all l.descriptor l.value-iterator.left ≡ on_by_all l.descriptor l.fn.reading.left
