use Rattle.lenient_parse.proofs.text.parse_instead.Goals as goal

pub returns-in-Err-clause-first : goal.returns-in-Err-clause-first
returns-in-Err-clause-first c = λ n. (c.in-Err.error.offset, c.origin.ensures, rw (← c.text.ensures) (c.in-Err.ensures.first n))
