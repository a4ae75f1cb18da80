use Rattle.std.proofs.Common.{arith, inl}
use Rattle.script.proofs.WordLemmas.{length-words}
use Rattle.script.proofs.complaint.of_words.Goals as goal

pub count-requires-clause-fits : goal.count-requires-clause-fits
count-requires-clause-fits c = inl (omega (arith, length-words c.args.rest.rest.now))
