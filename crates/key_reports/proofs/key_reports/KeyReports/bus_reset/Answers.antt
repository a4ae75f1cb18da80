use Rattle.reports.specs.Calls.{was_reset}
use Rattle.reports.proofs.Made.{same_made}
use Rattle.key_reports.proofs.Standing.{refines-asked}
use Rattle.key_reports.proofs.key_reports.KeyReports.bus_reset.Goals as goal

pub returns : goal.returns
returns c past s = refines-asked past was_reset (record { debouncer = c.self.inside.matrix; held = c.self.inside.held; poller = c.self.inside.poller }) c.reset.new.self (rw c.self.view_is s) c.reset.ensures.refines (same_made _ _ _ c.reset.ensures.made (rw (← c.self.view_is) at s).made)
