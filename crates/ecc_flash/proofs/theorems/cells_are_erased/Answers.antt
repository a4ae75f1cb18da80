use Rattle.ecc_flash.proofs.OfCells.{erased, erased_cells}
use Rattle.ecc_flash.proofs.theorems.cells_are_erased.Goals as goal

pub returns-clause-erased : goal.returns-clause-erased
returns-clause-erased c size check old new before after k h e m r = erased size check old new before after k h e m r

pub returns-clause-cells : goal.returns-clause-cells
returns-clause-cells c size check old new before after k h e m r = erased_cells check old new before after h e m r
