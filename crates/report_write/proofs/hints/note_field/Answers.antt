use Rattle.std.proofs.Common.{arith}
use Rattle.report_write.proofs.Hinted.{one_noted}
use Rattle.report_write.proofs.hints.note_field.Goals as goal

pub loop-range-preserved : goal.loop-range-preserved
loop-range-preserved c =
    one_noted c.args.its.now _ _ _ _ _ _ _ _ c.loop-range.invariant c.note_range.ensures.length c.note_range-in-loop-range.ensures.length
    c.note_range.ensures.fell c.note_range-in-loop-range.ensures.fell c.note_range.ensures.noted c.note_range-in-loop-range.ensures.noted

pub returns-clause-noted : goal.returns-clause-noted
returns-clause-noted c = λ range usage l a b. c.loop-range.invariant.noted range usage (omega (arith, l, c.loop-range-test.false)) a b
