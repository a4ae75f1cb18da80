use Rattle.descriptor_parse.proofs.CutLemmas.{one_cut}
use Rattle.descriptor_parse.proofs.theorems.one_cut.Goals as goal

pub returns : goal.returns
returns c = λ offset end text rest items cut none. one_cut items offset end text rest cut none
