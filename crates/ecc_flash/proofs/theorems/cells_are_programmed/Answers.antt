use Rattle.ecc_flash.proofs.OfCells.{programmed, programmed_cells}
use Rattle.ecc_flash.proofs.theorems.cells_are_programmed.Goals as goal

pub returns-clause-programmed : goal.returns-clause-programmed
returns-clause-programmed c size check bytes cells new k e p m r = programmed size check bytes cells new k e p m r

pub returns-clause-cells : goal.returns-clause-cells
returns-clause-cells c size check bytes cells new k e p m r = programmed_cells check bytes cells new e p m r
