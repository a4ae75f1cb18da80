use Rattle.std.proofs.Common.{arith, ◌∙◌}
use Rattle.steady_flash.proofs.Beginning.{told_more}
use Rattle.steady_flash.proofs.making.begin_pages.Goals as goal

pub loop-at-preserved : goal.loop-at-preserved
loop-at-preserved g c =
    let v = c.loop-at.invariant in
    let b = c.begin_page in
    record {
      same_size = b.ensures.same_size ∙ v.same_size;
      healthy = λ h. (b.ensures.healthy (v.healthy h)).1;
      others = λ q m n. b.ensures.marks q m (λ e f. n f) ∙ v.others q m n;
      left = λ q l. b.ensures.marks q 0 (λ e f. omega arith) ∙ v.left q (omega arith);
      told = λ p q l. told_more _ _ _ _ c.loop-at.at q b.ensures.marks b.ensures.slots (v.told p) (c.in_ok-begin_page.ensures.told (v.left c.loop-at.at (omega arith) ∙ p c.loop-at.at (omega arith))) l;
    }
