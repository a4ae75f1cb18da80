use Rattle.settings.proofs.store.Settings.compact.Goals as goal

pub returns-clause-compacted : goal.returns-clause-compacted
returns-clause-compacted g c ok = (c.transaction.ensures.written ok).compacted (λ f. f)
