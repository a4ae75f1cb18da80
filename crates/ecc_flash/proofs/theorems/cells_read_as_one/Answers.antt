use Rattle.std.proofs.Common.{Some}
use Rattle.ecc_flash.proofs.OfCells.{reads_one, reads_word}
use Rattle.ecc_flash.specs.Cells.{code_word}
use Rattle.ecc_flash.proofs.theorems.cells_read_as_one.Goals as goal

pub returns-clause-one : goal.returns-clause-one
returns-clause-one c size check cells read again k r s = reads_one size check cells read again k r s

pub returns-clause-word : goal.returns-clause-word
returns-clause-word c size check bytes read k e r = reads_one size check (code_word check bytes) read (Some bytes) k r (reads_word check bytes e)
