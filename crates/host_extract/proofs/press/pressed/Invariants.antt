use Rattle.std.proofs.Common.{take}
use Rattle.host_extract.proofs.Pressing.{Gathers}
use Rattle.host_extract.proofs.press.pressed.Given as goal

abbrev pub invariant-loop-reading : goal.invariant-loop-reading
invariant-loop-reading l = Gathers (take l.reading-index l.found) l.usages.items
