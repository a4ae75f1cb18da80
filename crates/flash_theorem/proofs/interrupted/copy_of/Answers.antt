use Rattle.flash_theorem.proofs.Torn.{copied_more}
use Rattle.flash_theorem.proofs.interrupted.copy_of.Goals as goal

pub loop-at-preserved : goal.loop-at-preserved
loop-at-preserved g c = copied_more c.loop-at.bytes c.put.new.bytes (g.F.NorFlash.image c.args.flash.now) c.loop-at.at c.read_slot.result c.put.ensures c.read_slot.ensures c.loop-at.invariant
