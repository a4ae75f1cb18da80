use Rattle.reports.proofs.LayoutTheorems.{bitmap-layout}
use Rattle.reports.proofs.theorems.bitmap_has_its_layout.Goals as goal

pub returns : goal.returns
returns c = bitmap-layout
