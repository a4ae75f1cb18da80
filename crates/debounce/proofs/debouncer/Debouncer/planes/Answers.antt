use Rattle.debounce.proofs.Fed.{planes-refine}
use Rattle.debounce.proofs.debouncer.Debouncer.planes.Goals as goal

pub returns : goal.returns
returns c scans h plane key p l = planes-refine scans _ plane key (rw (← c.self.view_is) at h) p l
