use Rattle.std.proofs.Common.{arith, inl}
use Rattle.script.proofs.WordLemmas.{length-words}
use Rattle.script.proofs.statement.Keyword.takes.Goals as goal

pub count-count-requires-clause-fits : goal.count-count-requires-clause-fits
count-count-requires-clause-fits c = inl (omega (arith, length-words c.args.rest.rest.now))
