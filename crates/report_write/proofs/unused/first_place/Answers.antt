use Rattle.std.proofs.Common.{sym}
use Rattle.std.proofs.Math.Logic.{∥∥₁_elim}
use Rattle.std.proofs.Math.Nat.{ℕ_set}
use Rattle.descriptor_parse.proofs.UsageLemmas.{no_usages}
use Rattle.report_write.proofs.UnusedLemmas.{counted_before}
use Rattle.report_write.proofs.unused.first_place.Goals as goal

pub returns-then-range-eq0 : goal.returns-then-range-eq0
returns-then-range-eq0 c = rw c.if-range-eq0.true (sym no_usages)

pub returns-else-range-eq0 : goal.returns-else-range-eq0
returns-else-range-eq0 c =
    ∥∥₁_elim c.args.declared.now.counted (ℕ_set _ _)
    (λ k. counted_before c.args.declared.now.ranges.now c.args.declared.now.counts.now c.args.range k c.requires c.if-range-eq0.false)
