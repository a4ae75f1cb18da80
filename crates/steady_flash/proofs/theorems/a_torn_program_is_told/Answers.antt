use Rattle.steady_flash.proofs.Tearing.{torn_told}
use Rattle.steady_flash.proofs.theorems.a_torn_program_is_told.Goals as goal

pub returns : goal.returns
returns c = torn_told
