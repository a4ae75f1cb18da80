use Rattle.std.proofs.Common.{arith, refl, sym}
use Rattle.debounce.proofs.Fed.{half_bit, joined_halves}
use Rattle.debounce.proofs.row.joined.Goals as goal

pub returns : goal.returns
returns c key at = sym (half_bit c.args.rows.now c.args.pair _ key (joined_halves c.args.rows.now c.args.pair _ _ refl refl (omega arith)) at)
