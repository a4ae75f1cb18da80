use Rattle.steady_flash.proofs.Tearing.{settled_read}
use Rattle.steady_flash.proofs.theorems.a_settled_flash_reads_as_shown.Goals as goal

pub returns : goal.returns
returns c = settled_read
