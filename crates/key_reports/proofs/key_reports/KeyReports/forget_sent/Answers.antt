use Rattle.reports.specs.Calls.{forgot}
use Rattle.reports.proofs.Made.{same_made}
use Rattle.key_reports.proofs.Standing.{refines-asked}
use Rattle.key_reports.proofs.key_reports.KeyReports.forget_sent.Goals as goal

pub returns : goal.returns
returns c past s = refines-asked past forgot (record { debouncer = c.self.inside.matrix; held = c.self.inside.held; poller = c.self.inside.poller }) c.forget_sent.new.self (rw c.self.view_is s) c.forget_sent.ensures.refines (same_made _ _ _ c.forget_sent.ensures.made (rw (← c.self.view_is) at s).made)
