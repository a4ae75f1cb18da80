use Rattle.std.proofs.Common.{arith, ◌≡◌, ◌<◌, ◌∙◌, refl, inl, inr}
use Rattle.std.proofs.lemmas.Bool.{cases_lt, false≢true}
use Rattle.std.proofs.lemmas.Result.{err_from_is_err_and}
use Rattle.steady_flash.specs.Sound.{steady_at}
use Rattle.steady_flash.proofs.Shrinking.{shrinks_itself, shrinks_then, shrunk_then}
use Rattle.steady_flash.specs.Layout.{held_at}
use Rattle.steady_flash.proofs.Settling.{settled_still, settled_there, untouched_itself, untouched_then}
use Rattle.steady_flash.proofs.starting.settle_opened.Goals as goal

pub loop-page-init : goal.loop-page-init
loop-page-init g c = record {
  same_size = refl;
  laid_out = c.requires;
  same_pages = refl;
  healthy = λ h. h;
  numbers = λ p a. refl;
  sound = λ k. (k, shrinks_itself _ _ (g.F.MarkedFlash.marks c.args.flash.now) (g.F.MarkedFlash.slots c.args.flash.now) k.sound);
  settled = λ p b. absurd (omega (arith, b));
  left = λ p a b. untouched_itself (g.F.MarkedFlash.marks c.args.flash.now) (g.F.MarkedFlash.slots c.args.flash.now) c.args.layout.now p;
}

pub loop-page-preserved : goal.loop-page-preserved
loop-page-preserved g c =
    let v = c.loop-page.invariant in
    let s = c.settle_where_opened in
    let here : c.loop-page.page < c.args.layout.now.pages = omega arith in
    let sound = rw v.same_size at c.in_ok-settle_where_opened.ensures.sound in
    record {
      same_size = s.ensures.same_size ∙ v.same_size;
      laid_out = rw v.same_size at s.ensures.laid_out;
      same_pages = s.ensures.same_pages ∙ v.same_pages;
      healthy = λ h. (s.ensures.healthy (v.healthy h)).0;
      sound = λ k. (let was = v.sound k in let now = sound was.0 in
          (now.0, shrinks_then _ (steady_at c.args.layout.now) (steady_at c.loop-page.layout) (steady_at s.new.layout) (g.F.MarkedFlash.marks c.args.flash.now) (g.F.MarkedFlash.slots c.args.flash.now) (g.F.MarkedFlash.marks c.loop-page.flash) (g.F.MarkedFlash.slots c.loop-page.flash) (g.F.MarkedFlash.marks s.new.flash) (g.F.MarkedFlash.slots s.new.flash) was.1 now.1));
      numbers = λ p a. s.ensures.numbers p (λ e. omega arith) ∙ v.numbers p (omega arith);
      settled = λ p b told. elim (cases_lt p c.loop-page.page) [
        | inl before ↦ settled_still (g.F.MarkedFlash.slots c.args.flash.now) (held_at c.args.layout.now.held p).page (g.F.MarkedFlash.marks c.loop-page.flash) (g.F.MarkedFlash.slots c.loop-page.flash) (g.F.MarkedFlash.marks s.new.flash) (g.F.MarkedFlash.slots s.new.flash) c.loop-page.layout s.new.layout p (v.settled p before told) (c.in_ok-settle_where_opened.ensures.others p (rw v.same_pages (omega arith)) (λ e. omega arith))
        | inr other ↦ (let e : p ≡ c.loop-page.page = omega arith in
            settled_there (g.F.MarkedFlash.marks c.args.flash.now) (g.F.MarkedFlash.slots c.args.flash.now) (g.F.MarkedFlash.marks c.loop-page.flash) (g.F.MarkedFlash.slots c.loop-page.flash) (g.F.MarkedFlash.slots s.new.flash) c.args.layout.now c.loop-page.layout s.new.layout p c.loop-page.page e (v.left c.loop-page.page (omega arith) here) c.in_ok-settle_where_opened.ensures.settled told)
      ];
      left = λ p a b. untouched_then (g.F.MarkedFlash.marks c.args.flash.now) (g.F.MarkedFlash.slots c.args.flash.now) (g.F.MarkedFlash.marks c.loop-page.flash) (g.F.MarkedFlash.slots c.loop-page.flash) (g.F.MarkedFlash.marks s.new.flash) (g.F.MarkedFlash.slots s.new.flash) c.args.layout.now c.loop-page.layout s.new.layout p (v.left p (omega arith) b) (c.in_ok-settle_where_opened.ensures.others p (rw v.same_pages b) (λ e. omega arith));
    }

pub returns-in_err-settle_where_opened-clause-complete : goal.returns-in_err-settle_where_opened-clause-complete
returns-in_err-settle_where_opened-clause-complete g c = λ h numbers.
    let v = c.loop-page.invariant in
    let here : c.loop-page.page < c.args.layout.now.pages = omega arith in
    absurd (false≢true (c.in_err-settle_where_opened.ensures.complete (v.healthy h) (rw (v.numbers c.loop-page.page (omega arith)) (numbers c.loop-page.page here))))

pub returns-in_err-settle_where_opened-clause-sound : goal.returns-in_err-settle_where_opened-clause-sound
returns-in_err-settle_where_opened-clause-sound g c = λ k.
    let v = c.loop-page.invariant in
    let s = c.settle_where_opened in
    let sound = rw v.same_size at c.in_err-settle_where_opened.ensures.sound in
    let was = v.sound k in
    let p = err_from_is_err_and c.from_residual.result c.from_residual.ensures.1 in
    rw p.1 (shrunk_then _ (steady_at c.args.layout.now) (steady_at c.loop-page.layout) (g.F.MarkedFlash.marks c.args.flash.now) (g.F.MarkedFlash.slots c.args.flash.now) (g.F.MarkedFlash.marks c.loop-page.flash) (g.F.MarkedFlash.slots c.loop-page.flash) (g.F.MarkedFlash.marks s.new.flash) (g.F.MarkedFlash.slots s.new.flash) was.1 (sound was.0))

pub returns-clause-settled : goal.returns-clause-settled
returns-clause-settled g c = λ p b told. c.loop-page.invariant.settled p (omega arith) told
