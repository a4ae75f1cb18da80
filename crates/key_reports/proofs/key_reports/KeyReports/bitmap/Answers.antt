use Rattle.std.proofs.Common.{◌≡◌, ◌∙◌, length}
use Rattle.reports.proofs.LayoutTheorems.{bitmap-layout}
use Rattle.key_reports.specs.Past.{wanted_after, keys_after}
use Rattle.key_reports.proofs.key_reports.KeyReports.bitmap.Goals as goal
use Rattle.std.proofs.Common.{rules}

pub returns-then-is_made_for : goal.returns-then-is_made_for
returns-then-is_made_for c past s =
    let h = rw (← c.self.view_is) at s in
    let is = c.made_bitmap.ensures (wanted_after past) (c.is_made_for.ensures.made (wanted_after past) c.if-is_made_for.true h.made) in
    let size : length c.made_bitmap.result.now ≡ 23 = rw is (bitmap-layout (keys_after past)).size in
    rw size at c.words.ensures ∙ is

pub returns-else-is_made_for : goal.returns-else-is_made_for
returns-else-is_made_for c = search rules
