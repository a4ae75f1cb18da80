use Rattle.descriptor_parse.proofs.ReadingLemmas.{same_answers}
use Rattle.descriptor_parse.proofs.theorems.one_answer.Goals as goal

pub returns : goal.returns
returns c = same_answers
