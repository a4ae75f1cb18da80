use Rattle.ecc_flash.proofs.Witnessing.{SoFar}
use Rattle.ecc_flash.proofs.witness.erase.Given as goal

abbrev pub invariant-loop-unit : goal.invariant-loop-unit
invariant-loop-unit l = SoFar l.fn.units l.page l.unit l.units
