use Rattle.flash_theorem.proofs.interrupted.start_behind.Given as goal

abbrev pub invariant-loop-whole : goal.invariant-loop-whole
invariant-loop-whole g l = (next : g.row.F.Denot) → g.F.RestartableFlash.starts l.off next → g.F.RestartableFlash.starts l.fn.off next
