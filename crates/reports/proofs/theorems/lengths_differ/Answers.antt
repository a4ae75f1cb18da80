use Rattle.reports.proofs.Sizes.{one-length}
use Rattle.reports.proofs.theorems.lengths_differ.Goals as goal

pub returns : goal.returns
returns c = one-length
