use Rattle.descriptor_parse.proofs.CutLemmas.{has_cut}
use Rattle.descriptor_parse.proofs.theorems.has_cut.Goals as goal

pub returns : goal.returns
returns c = has_cut
