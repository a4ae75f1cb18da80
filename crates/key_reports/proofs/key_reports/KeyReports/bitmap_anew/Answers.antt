use Rattle.std.proofs.Common.{◌≡◌, ◌∙◌, length}
use Rattle.layers.specs.Usages.{has_key}
use Rattle.reports.proofs.LayoutTheorems.{bitmap-layout}
use Rattle.key_reports.proofs.Standing.{keys-held, bitmap_after}
use Rattle.key_reports.proofs.key_reports.KeyReports.bitmap_anew.Goals as goal

pub returns : goal.returns
returns c past s =
    let h = rw (← c.self.view_is) at s in
    let size : length c.bitmap.result ≡ 23 = rw c.bitmap.ensures (bitmap-layout (has_key c.lent.result.now)).size in
    rw size at c.words.ensures ∙ c.bitmap.ensures ∙ bitmap_after past c.lent.result.now (keys-held past c.self.inside.held _ h.held c.lent.ensures.keys)
