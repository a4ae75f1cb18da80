use Rattle.std.proofs.Common.{◌≡◌, ◌∙◌, length}
use Rattle.layers.specs.Usages.{has_key}
use Rattle.reports.proofs.LayoutTheorems.{boot-layout}
use Rattle.key_reports.proofs.Standing.{keys-held, boot_after}
use Rattle.key_reports.proofs.key_reports.KeyReports.boot_anew.Goals as goal

pub returns : goal.returns
returns c past s =
    let h = rw (← c.self.view_is) at s in
    let size : length c.boot.result ≡ 8 = rw c.boot.ensures (boot-layout (has_key c.lent.result.now)).size in
    rw size at c.words.ensures ∙ c.boot.ensures ∙ boot_after past c.lent.result.now (keys-held past c.self.inside.held _ h.held c.lent.ensures.keys)
