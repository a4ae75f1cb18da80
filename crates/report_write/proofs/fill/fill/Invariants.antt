use Rattle.std.proofs.Common.{◌≡◌, length}
use Rattle.report_write.specs.Begins.{IsEmptyUpTo}
use Rattle.report_write.proofs.fill.fill.Given as goal

abbrev pub invariant-loop-number : goal.invariant-loop-number
invariant-loop-number l = record {
  filled : IsEmptyUpTo l.descriptor l.kept l.fn.bytes l.number l.bytes;
  long : length l.bytes ≡ length l.fn.bytes;
}
