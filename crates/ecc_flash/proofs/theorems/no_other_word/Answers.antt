use Rattle.ecc_flash.proofs.Theorem.{one_word}
use Rattle.ecc_flash.proofs.theorems.no_other_word.Goals as goal

pub returns : goal.returns
returns c a b x y pa pb ca px py cx na nb = one_word a b x y pa pb ca px py cx na nb
