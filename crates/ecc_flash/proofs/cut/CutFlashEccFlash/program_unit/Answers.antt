use Rattle.std.proofs.Common.{rules}
use Rattle.ecc_flash.proofs.cut.CutFlashEccFlash.program_unit.Goals as goal

pub returns-in-Some-eq0-clause-fails : goal.returns-in-Some-eq0-clause-fails
returns-in-Some-eq0-clause-fails g c = search rules
