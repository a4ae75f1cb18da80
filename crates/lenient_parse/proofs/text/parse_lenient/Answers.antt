use Rattle.lenient_parse.proofs.text.parse_lenient.Goals as goal

pub parse_refused-requires-clause-first : goal.parse_refused-requires-clause-first
parse_refused-requires-clause-first c = c.in-Err.ensures.first c.in_default.not-Memory
