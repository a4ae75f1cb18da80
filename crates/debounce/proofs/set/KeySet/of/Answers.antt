use Rattle.debounce.proofs.Fed.{of_halves}
use Rattle.debounce.proofs.set.KeySet.of.Goals as goal

pub returns : goal.returns
returns c key l = of_halves c.args.scan.now _ _ _ key c.joined.ensures c.joined-2.ensures c.joined-3.ensures l
