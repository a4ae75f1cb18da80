use Rattle.std.proofs.Common.{◌∙◌, sym, refl, inl}
use Rattle.std.proofs.lemmas.Result.{err_from_is_err_and}
use Rattle.steady_flash.specs.Layout.{held_at}
use Rattle.steady_flash.specs.Sound.{steady_at}
use Rattle.steady_flash.proofs.Shrinking.{shrinks_narrow, shrinks_then, shrunk_itself, shrunk_still, shrunk_then, settled_pages}
use Rattle.std.proofs.lemmas.Bool.{false≢true}
use Rattle.steady_flash.proofs.Settling.{settled_found, room_found}
use Rattle.steady_flash.proofs.Telling.{settled_told}
use Rattle.steady_flash.proofs.starting.settle_all.Goals as goal

pub returns-clause-settled : goal.returns-clause-settled
returns-clause-settled g c = λ before k e.
    let f = c.in_ok-layout.ensures.found before k e in
    let pages = f.pages ∙ e in (
      c.settle_opened.ensures.same_pages ∙ c.bump_all.ensures.same_pages ∙ pages,
      λ p b. settled_found before _ c.bump_all.new.layout c.settle_opened.new.layout (g.F.MarkedFlash.marks c.args.flash.now) (g.F.MarkedFlash.slots c.args.flash.now) (g.F.MarkedFlash.marks c.bump_all.new.flash) (g.F.MarkedFlash.slots c.bump_all.new.flash) (g.F.MarkedFlash.slots c.settle_opened.new.flash) p b f c.bump_all.ensures.same_places c.bump_all.ensures.slots c.bump_all.ensures.opened (c.in_ok-settle_opened.ensures.settled p (rw (c.bump_all.ensures.same_pages, f.pages) b)),
    )

pub returns-in_err-layout-clause-complete : goal.returns-in_err-layout-clause-complete
returns-in_err-layout-clause-complete g c = λ h before k e o room. absurd (false≢true (c.in_err-layout.ensures.complete h before k e o))

pub returns-in_err-bump_all-clause-complete : goal.returns-in_err-bump_all-clause-complete
returns-in_err-bump_all-clause-complete g c = λ h before k e o room.
    absurd (false≢true (c.in_err-bump_all.ensures.complete h (room_found _ before _ (c.in_ok-layout.ensures.found before k e) room)).0)

pub returns-in_err-settle_opened-clause-complete : goal.returns-in_err-settle_opened-clause-complete
returns-in_err-settle_opened-clause-complete g c = λ h before k e o room.
    let numbers = (c.in_ok-bump_all.ensures.complete h (room_found _ before _ (c.in_ok-layout.ensures.found before k e) room)).1 in
    absurd (false≢true (c.in_err-settle_opened.ensures.complete (c.bump_all.ensures.healthy h).0 (λ p b. numbers p (rw c.bump_all.ensures.same_pages at b))))

pub returns-clause-told : goal.returns-clause-told
returns-clause-told g c = λ told.
    let f = c.in_ok-layout.ensures.read in
    settled_told (g.F.MarkedFlash.size c.args.flash.now) (g.F.MarkedFlash.marks c.args.flash.now) (g.F.MarkedFlash.slots c.args.flash.now) (g.F.MarkedFlash.marks c.bump_all.new.flash) (g.F.MarkedFlash.slots c.bump_all.new.flash) (g.F.MarkedFlash.slots c.settle_opened.new.flash) c.args.pages _ c.bump_all.new.layout c.settle_opened.new.layout told f.1 c.in_ok-layout.ensures.laid_out.placed f.0 c.bump_all.ensures.same_places c.bump_all.ensures.slots c.bump_all.ensures.opened (c.settle_opened.ensures.same_pages ∙ c.bump_all.ensures.same_pages) (λ p b. c.in_ok-settle_opened.ensures.settled p (rw c.bump_all.ensures.same_pages b))

pub returns-in_err-layout-clause-sound : goal.returns-in_err-layout-clause-sound
returns-in_err-layout-clause-sound g c = λ before k e.
    let p = err_from_is_err_and c.from_residual.result c.from_residual.ensures.1 in
    rw p.1 (shrunk_itself _ before (g.F.MarkedFlash.marks c.args.flash.now) (g.F.MarkedFlash.slots c.args.flash.now) k)

pub returns-in_err-bump_all-clause-sound : goal.returns-in_err-bump_all-clause-sound
returns-in_err-bump_all-clause-sound g c = λ before k e.
    let pages = c.in_ok-layout.ensures.pages in
    let still = c.in_err-bump_all.ensures.sound before k (e ∙ sym pages) (λ q b. c.in_ok-layout.ensures.sound before k e q (rw pages at b)) in
    let p = err_from_is_err_and c.from_residual-in_err-bump_all.result c.from_residual-in_err-bump_all.ensures.1 in
    rw p.1 (shrunk_still _ before (g.F.MarkedFlash.marks c.args.flash.now) (g.F.MarkedFlash.slots c.args.flash.now) (g.F.MarkedFlash.marks c.bump_all.new.flash) (g.F.MarkedFlash.slots c.bump_all.new.flash) still c.bump_all.ensures.slots c.bump_all.ensures.opened)

pub returns-in_err-settle_opened-clause-sound : goal.returns-in_err-settle_opened-clause-sound
returns-in_err-settle_opened-clause-sound g c = λ before k e.
    let pages = c.in_ok-layout.ensures.pages in
    let calm = c.in_ok-bump_all.ensures.sound before k (e ∙ sym pages) (λ q b. c.in_ok-layout.ensures.sound before k e q (rw pages at b)) in
    let first = shrinks_narrow _ before (steady_at c.bump_all.new.layout) (g.F.MarkedFlash.marks c.args.flash.now) (g.F.MarkedFlash.slots c.args.flash.now) (g.F.MarkedFlash.marks c.bump_all.new.flash) (g.F.MarkedFlash.slots c.bump_all.new.flash) calm.0.sound calm.1 c.bump_all.ensures.slots c.bump_all.ensures.opened in
    let sound = rw c.bump_all.ensures.same_size at c.in_err-settle_opened.ensures.sound in
    let p = err_from_is_err_and c.from_residual-in_err-settle_opened.result c.from_residual-in_err-settle_opened.ensures.1 in
    rw p.1 (shrunk_then _ before (steady_at c.bump_all.new.layout) (g.F.MarkedFlash.marks c.args.flash.now) (g.F.MarkedFlash.slots c.args.flash.now) (g.F.MarkedFlash.marks c.bump_all.new.flash) (g.F.MarkedFlash.slots c.bump_all.new.flash) (g.F.MarkedFlash.marks c.settle_opened.new.flash) (g.F.MarkedFlash.slots c.settle_opened.new.flash) first (sound calm.0))

pub returns-clause-sound : goal.returns-clause-sound
returns-clause-sound g c = λ before k e.
    let pages = c.in_ok-layout.ensures.pages in
    let calm = c.in_ok-bump_all.ensures.sound before k (e ∙ sym pages) (λ q b. c.in_ok-layout.ensures.sound before k e q (rw pages at b)) in
    let first = shrinks_narrow _ before (steady_at c.bump_all.new.layout) (g.F.MarkedFlash.marks c.args.flash.now) (g.F.MarkedFlash.slots c.args.flash.now) (g.F.MarkedFlash.marks c.bump_all.new.flash) (g.F.MarkedFlash.slots c.bump_all.new.flash) calm.0.sound calm.1 c.bump_all.ensures.slots c.bump_all.ensures.opened in
    let sound = rw c.bump_all.ensures.same_size at c.in_ok-settle_opened.ensures.sound in
    let last = sound calm.0 in
    record {
      calm = last.0;
      shrinks = shrinks_then _ before (steady_at c.bump_all.new.layout) (steady_at c.settle_opened.new.layout) (g.F.MarkedFlash.marks c.args.flash.now) (g.F.MarkedFlash.slots c.args.flash.now) (g.F.MarkedFlash.marks c.bump_all.new.flash) (g.F.MarkedFlash.slots c.bump_all.new.flash) (g.F.MarkedFlash.marks c.settle_opened.new.flash) (g.F.MarkedFlash.slots c.settle_opened.new.flash) first last.1;
      settled = λ h. settled_pages (g.F.MarkedFlash.slots c.bump_all.new.flash) (g.F.MarkedFlash.slots c.settle_opened.new.flash) c.bump_all.new.layout c.settle_opened.new.layout c.settle_opened.ensures.same_pages (λ q b. c.in_ok-settle_opened.ensures.settled q b (first.told h q (held_at c.bump_all.new.layout.held q).page b (inl refl)));
    }
