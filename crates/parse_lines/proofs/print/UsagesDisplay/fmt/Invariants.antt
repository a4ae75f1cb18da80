use Rattle.std.proofs.Common.{take, ◌+◌}
use Rattle.std.specs.Fmt.{HasWritten, IsPlainFormatter}
use Rattle.parse_lines.specs.Prints.{shown_usages}
use Rattle.parse_lines.proofs.print.UsagesDisplay.fmt.Given as goal

-- the ranges up to the one that comes next are written
abbrev pub invariant-loop-next : goal.invariant-loop-next
invariant-loop-next g l =
    IsPlainFormatter l.fn.f → HasWritten g.W.Write.write_str_gives l.fn.f (shown_usages (take (l.next-index + 1) l.self.0.now)) l.f
