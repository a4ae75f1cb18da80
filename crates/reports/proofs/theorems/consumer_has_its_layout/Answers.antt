use Rattle.reports.proofs.LayoutTheorems.{consumer-layout}
use Rattle.reports.proofs.theorems.consumer_has_its_layout.Goals as goal

pub returns : goal.returns
returns c = consumer-layout
