use Rattle.std.proofs.Common.{◌≡◌, ◌∙◌, length}
use Rattle.layers.specs.Usages.{has_consumer}
use Rattle.reports.proofs.LayoutTheorems.{consumer-layout}
use Rattle.key_reports.proofs.Standing.{consumer-held, consumer_bytes_after}
use Rattle.key_reports.proofs.key_reports.KeyReports.consumer_anew.Goals as goal

pub returns : goal.returns
returns c past s =
    let h = rw (← c.self.view_is) at s in
    let size : length c.consumer.result ≡ 9 = rw c.consumer.ensures (consumer-layout (has_consumer c.lent.result.now)).size in
    rw size at c.words.ensures ∙ c.consumer.ensures ∙ consumer_bytes_after past c.lent.result.now (consumer-held past c.self.inside.held _ h.held c.lent.ensures.consumer)
