use Rattle.std.proofs.Common.{[]}
use Rattle.reports.proofs.Made.{is_made}
use Rattle.key_reports.proofs.Standing.{refines_new, made_cleared}
use Rattle.key_reports.proofs.key_reports.KeyReports.restart.Goals as goal

pub returns : goal.returns
returns c = refines_new _ c.new-self-inside.ensures c.clear.ensures.refines (c.make.ensures.refines [] c.reset.ensures.fresh)
    (made_cleared _ _ _ _ c.clear.ensures.refines (record { keys = c.lent.ensures.keys; consumer = c.lent.ensures.consumer }) (is_made _ _ _ c.make.ensures.made))
