use Rattle.std.proofs.Common.{arith, ◌∙◌}
use Rattle.steady_flash.proofs.Beginning.{blank_more, blank_settled, small_still}
use Rattle.steady_flash.proofs.making.erase_each.Goals as goal

pub loop-page-preserved : goal.loop-page-preserved
loop-page-preserved g c =
    let v = c.loop-page.invariant in
    let b = c.erase_page in
    record {
      same_size = b.ensures.same_size ∙ v.same_size;
      laid_out = rw v.same_size at b.ensures.laid_out;
      same_pages = b.ensures.same_pages ∙ v.same_pages;
      healthy = λ h. (b.ensures.healthy (v.healthy h)).0;
      fresh = λ p a d. small_still c.loop-page.layout b.new.layout c.loop-page.page p _ c.in-Ok.ensures.moved (λ e. omega arith) (v.fresh p (omega arith) (omega (arith, d, b.ensures.same_pages)));
      blank_there = λ p d. rw c.in-Ok.ensures.moved (blank_more _ c.loop-page.layout _ (g.F.MarkedFlash.slots b.new.flash) c.loop-page.page p v.laid_out (omega (arith, v.same_pages)) b.ensures.others c.in-Ok.ensures.erased v.blank_there d);
    }

pub returns-clause-settled : goal.returns-clause-settled
returns-clause-settled g c = blank_settled (g.F.MarkedFlash.slots c.loop-page.flash) c.loop-page.layout (λ p b. c.loop-page.invariant.blank_there p (omega (arith, b, c.loop-page.invariant.same_pages)))
