use Rattle.std.proofs.Common.{◌≡◌, ◌∙◌, length}
use Rattle.reports.proofs.LayoutTheorems.{consumer-layout}
use Rattle.key_reports.specs.Past.{wanted_after, consumer_after}
use Rattle.key_reports.proofs.key_reports.KeyReports.consumer.Goals as goal

pub returns-then-is_made_for : goal.returns-then-is_made_for
returns-then-is_made_for c past s =
    let h = rw (← c.self.view_is) at s in
    let is = c.made_consumer.ensures (wanted_after past) (c.is_made_for.ensures.made (wanted_after past) c.if-is_made_for.true h.made) in
    let size : length c.made_consumer.result.now ≡ 9 = rw is (consumer-layout (consumer_after past)).size in
    rw size at c.words.ensures ∙ is
