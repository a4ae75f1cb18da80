use Rattle.key_reports.proofs.keys.make_for.Goals as goal

pub returns-then-not-is_made_for-clause-made : goal.returns-then-not-is_made_for-clause-made
returns-then-not-is_made_for-clause-made c past h m = c.make_anew.ensures.made past h
