use Rattle.std.proofs.Common.{◌≡◌, length}
use Rattle.lenient_parse.specs.Sets.{is_zero}
use Rattle.lenient_parse.proofs.ahead.is_zero.Given as goal

-- those that are passed are 0
abbrev pub invariant-loop-byte : goal.invariant-loop-byte
invariant-loop-byte l = is_zero l.rest ≡ is_zero l.fn.bytes

abbrev pub decreases-loop-byte : goal.decreases-loop-byte
decreases-loop-byte l = length l.rest
