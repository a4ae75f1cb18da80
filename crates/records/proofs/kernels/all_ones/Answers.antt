use Rattle.records.proofs.Gathered.{gathered_none, gathered_more}
use Rattle.std.proofs.Common.{arith}
use Rattle.records.proofs.kernels.all_ones.Goals as goal

pub loop-i-init : goal.loop-i-init
loop-i-init c = gathered_none c.args.bytes.now

pub loop-i-preserved : goal.loop-i-preserved
loop-i-preserved c = gathered_more c.args.bytes.now c.loop-i.i c.loop-i.all (λ k. let f = c.type_inv.bytes k in f.fits) c.loop-i.invariant (omega (arith, c.loop-i.invariant.within))
