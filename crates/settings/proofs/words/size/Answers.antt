use Rattle.settings.proofs.Packing.{size_some, size_none}
use Rattle.settings.proofs.words.size.Goals as goal

pub returns-in-Some-clause-words : goal.returns-in-Some-clause-words
returns-in-Some-clause-words c = rw c.len.ensures.len (size_some c.args.change.now c.in-Some.value c.in-Some.is)

pub returns-in-None-clause-words : goal.returns-in-None-clause-words
returns-in-None-clause-words c = size_none c.args.change.now c.in-None.is
