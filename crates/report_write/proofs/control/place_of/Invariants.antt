use Rattle.std.proofs.Common.{◌≡◌, None, take, find, ◌==◌}
use Rattle.report_write.proofs.control.place_of.Given as goal

abbrev pub invariant-loop-number : goal.invariant-loop-number
invariant-loop-number l = find (λ k. k.number == l.field) (take l.number l.kept) ≡ None
