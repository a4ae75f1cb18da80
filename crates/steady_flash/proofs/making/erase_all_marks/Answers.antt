use Rattle.std.proofs.Common.{◌∙◌}
use Rattle.steady_flash.proofs.Beginning.{erased_more}
use Rattle.steady_flash.proofs.making.erase_all_marks.Goals as goal

pub loop-at-preserved : goal.loop-at-preserved
loop-at-preserved g c = record {
  same_size = c.erase_marks.ensures.same_size ∙ c.loop-at.invariant.same_size;
  healthy = λ h. (c.erase_marks.ensures.healthy (c.loop-at.invariant.healthy h)).1;
  erased = λ q b. erased_more _ _ _ c.loop-at.at q c.erase_marks.ensures.marks c.loop-at.invariant.erased (rw c.loop-at.invariant.same_size at c.in_ok-erase_marks.ensures.outcome) b;
}
