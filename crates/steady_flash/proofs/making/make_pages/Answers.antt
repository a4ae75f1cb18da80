use Rattle.std.proofs.Common.{arith, ℕ, ◌<◌, ◌≡◌, ◌-◌, ◌∙◌}
use Rattle.steady_flash.specs.Claims.{IsErasedMarks}
use Rattle.steady_flash.proofs.Beginning.{made_told, if_any}
use Rattle.steady_flash.proofs.making.make_pages.Goals as goal

pub returns-clause-told : goal.returns-clause-told
returns-clause-told g c =
    let size = g.F.MarkedFlash.size c.args.flash.now in
    let gone : (q : ℕ) → q < size.pages → IsErasedMarks (g.F.MarkedFlash.marks c.erase_all_marks.new.flash) size.triples q = rw c.clear_claims.ensures.same_size at c.in_ok-erase_all_marks.ensures.erased in
    let count : c.pages-pages.result ≡ size.pages = c.pages-pages.ensures.count in
    if_any c.finish_pages.result _ (made_told size _ (g.F.MarkedFlash.marks c.begin_pages.new.flash) (g.F.MarkedFlash.marks c.finish_pages.new.flash) (g.F.MarkedFlash.slots c.begin_pages.new.flash) (g.F.MarkedFlash.slots c.finish_pages.new.flash) (size.pages - 1) c.requires.count
    gone
    (λ m n. c.begin_pages.ensures.others (size.pages - 1) m n)
    (λ m. c.finish_pages.ensures.others (size.pages - 1) m (omega (arith, count)) ∙ c.claim_pages.ensures.others (size.pages - 1) m (omega (arith, count)))
    (λ q b. c.in_ok-begin_pages.ensures.told (λ p d. gone p (omega (arith, count, d)) 0 (omega arith)) q (omega (arith, count, b)))
    (λ p i. c.finish_pages.ensures.slots p i ∙ c.claim_pages.ensures.slots p i)
    (λ q. c.finish_pages.ensures.opened q ∙ c.claim_pages.ensures.opened q))
