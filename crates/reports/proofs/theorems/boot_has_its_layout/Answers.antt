use Rattle.reports.proofs.LayoutTheorems.{boot-layout}
use Rattle.reports.proofs.theorems.boot_has_its_layout.Goals as goal

pub returns : goal.returns
returns c = boot-layout
