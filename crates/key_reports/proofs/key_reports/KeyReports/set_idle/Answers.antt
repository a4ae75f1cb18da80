use Rattle.reports.specs.Calls.{idle_set}
use Rattle.reports.proofs.Made.{same_made}
use Rattle.key_reports.proofs.Standing.{refines-asked}
use Rattle.key_reports.proofs.key_reports.KeyReports.set_idle.Goals as goal

pub returns : goal.returns
returns c past s = refines-asked past (idle_set c.args.id c.args.duration) (record { debouncer = c.self.inside.matrix; held = c.self.inside.held; poller = c.self.inside.poller }) c.set_idle.new.self (rw c.self.view_is s) c.set_idle.ensures.refines (same_made _ _ _ c.set_idle.ensures.made (rw (← c.self.view_is) at s).made)
