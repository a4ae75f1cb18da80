use Rattle.parse_lines.proofs.text.parsed.Goals as goal

pub returns-in_default-clause-refused : goal.returns-in_default-clause-refused
returns-in_default-clause-refused c = (c.in_default.not-Memory, c.in-Err.ensures.first c.in_default.not-Memory)
