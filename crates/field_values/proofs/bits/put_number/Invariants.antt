use Rattle.field_values.proofs.Writing.{IsWritten}
use Rattle.field_values.proofs.bits.put_number.Given as goal

abbrev pub invariant-loop-place : goal.invariant-loop-place
invariant-loop-place l = IsWritten l.from l.number l.fn.bytes l.place l.bytes
