use Rattle.std.proofs.Common.{arith, ◌∙◌}
use Rattle.steady_flash.proofs.making.claim_pages.Goals as goal

pub loop-page-preserved : goal.loop-page-preserved
loop-page-preserved g c =
    let v = c.loop-page.invariant in
    let b = c.program_mark in
    record {
      same_size = b.ensures.same_size ∙ v.same_size;
      healthy = λ h. (b.ensures.healthy (v.healthy h)).1;
      slots = λ p i. b.ensures.slots p i ∙ v.slots p i;
      opened = λ q. b.ensures.marks q 0 (λ e f. omega (arith, f, c.claim.ensures)) ∙ v.opened q;
      others = λ q m l. b.ensures.marks q m (λ e f. omega arith) ∙ v.others q m l;
    }
