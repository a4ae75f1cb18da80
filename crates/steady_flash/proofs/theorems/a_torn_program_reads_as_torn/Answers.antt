use Rattle.steady_flash.proofs.Tearing.{torn_program}
use Rattle.steady_flash.proofs.theorems.a_torn_program_reads_as_torn.Goals as goal

pub returns : goal.returns
returns c = torn_program
