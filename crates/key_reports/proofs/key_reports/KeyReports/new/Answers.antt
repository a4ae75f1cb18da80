use Rattle.std.proofs.Common.{refl}
use Rattle.key_reports.proofs.Standing.{refines_new, made_none}
use Rattle.key_reports.proofs.key_reports.KeyReports.new.Goals as goal

pub returns : goal.returns
returns c = refines_new _ c.new-2.ensures c.new-3.ensures.refines c.in_ok-poller.ensures.refines (made_none _ _ _ (λ u. refl) (λ u. refl) c.in_ok-poller.ensures.made)
