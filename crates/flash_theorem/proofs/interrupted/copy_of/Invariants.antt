use Rattle.std.proofs.Common.{◌≡◌, ◌*◌, take}
use Rattle.flash_theorem.proofs.interrupted.copy_of.Given as goal

abbrev pub invariant-loop-at : goal.invariant-loop-at
invariant-loop-at g l = take (8 * l.at) l.bytes ≡ take (8 * l.at) (g.F.NorFlash.image l.flash)
