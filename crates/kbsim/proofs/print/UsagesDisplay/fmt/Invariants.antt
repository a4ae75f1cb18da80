use Rattle.std.proofs.Common.{take}
use Rattle.std.specs.Fmt.{HasWritten, IsPlainFormatter}
use Rattle.kbsim.specs.Prints.{shown_usages}
use Rattle.kbsim.proofs.print.UsagesDisplay.fmt.Given as goal

abbrev pub invariant-loop-usage : goal.invariant-loop-usage
invariant-loop-usage g l =
    IsPlainFormatter l.fn.f → HasWritten g.W.Write.write_str_gives l.fn.f (shown_usages (take l.usage-index l.self.0.now)) l.f
