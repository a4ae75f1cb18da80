use Rattle.debounce.proofs.debouncer.Debouncer.is_down.Goals as goal

pub returns : goal.returns
returns c scans h = c.is_down.ensures scans (rw (← c.self.view_is) at h).matrix
