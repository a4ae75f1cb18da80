use Rattle.ecc_flash.proofs.Thrice.{is_code}
use Rattle.ecc_flash.proofs.theorems.a_code_corrects_one.Goals as goal

pub returns : goal.returns
returns c = is_code
