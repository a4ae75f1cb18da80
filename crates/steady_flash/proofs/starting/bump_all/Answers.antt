use Rattle.std.proofs.Common.{arith, ◌≡◌, ◌-◌, ◌<◌, ◌∙◌, ap, sym, refl}
use Rattle.std.proofs.lemmas.Result.{err_from_is_err_and}
use Rattle.std.proofs.lemmas.Bool.{false≢true}
use Rattle.steady_flash.specs.Marked.{Size}
use Rattle.steady_flash.specs.Layout.{held_at}
use Rattle.steady_flash.proofs.Settling.{raised_left, raised_still, room_as}
use Rattle.steady_flash.proofs.Bumping.{bumped_more, still_less, calm_all, bumped_none}
use Rattle.steady_flash.proofs.starting.bump_all.Goals as goal

pub loop-behind-preserved : goal.loop-behind-preserved
loop-behind-preserved g c =
    let v = c.loop-behind.invariant in
    let s = c.bump_where_begun in
    let sound = rw v.same_size at c.in_ok-bump_where_begun.ensures.sound in
    record {
      same_size = s.ensures.same_size ∙ v.same_size;
      laid_out = rw v.same_size at s.ensures.laid_out;
      same_pages = s.ensures.same_pages ∙ v.same_pages;
      healthy = λ h. (s.ensures.healthy (v.healthy h)).0;
      slots = λ p i. s.ensures.slots p i ∙ v.slots p i;
      opened = λ q. s.ensures.opened q ∙ v.opened q;
      same_places = λ p. s.ensures.same_places p ∙ v.same_places p;
      left = λ p b. raised_left (held_at c.loop-behind.layout.held p) (held_at s.new.layout.held p) (held_at c.args.layout.now.held p) _ (s.ensures.numbers p) (λ e. omega arith) (v.left p (omega arith));
      bumped = λ before k e f.
          let at = c.args.layout.now.pages - 1 - c.loop-behind.behind in
          let b = v.bumped before k e f in
          bumped_more _ before (g.F.MarkedFlash.marks c.loop-behind.flash) (g.F.MarkedFlash.marks s.new.flash) c.loop-behind.layout s.new.layout c.args.layout.now.pages c.loop-behind.behind at e (omega arith)
          (λ p apart. raised_left (held_at c.loop-behind.layout.held p) (held_at s.new.layout.held p) (held_at c.loop-behind.layout.held p) _ (s.ensures.numbers p) apart refl) b
          (sound b.after b.sound (b.narrows.pages ∙ e ∙ sym v.same_pages) (b.found at (omega arith)));
      raised = λ p. raised_still (held_at c.loop-behind.layout.held p) (held_at s.new.layout.held p) (held_at c.args.layout.now.held p) _ (s.ensures.numbers p) (v.raised p) (λ e. v.left p (omega arith));
    }

pub returns-in_err-bump_where_begun-clause-complete : goal.returns-in_err-bump_where_begun-clause-complete
returns-in_err-bump_where_begun-clause-complete g c = λ h room.
    let v = c.loop-behind.invariant in
    let at = c.args.layout.now.pages - 1 - c.loop-behind.behind in
    let here : at < c.args.layout.now.pages = omega arith in
    absurd (false≢true (c.in_err-bump_where_begun.ensures.complete (v.healthy h) (room_as _ _ (held_at c.args.layout.now.held at) (held_at c.loop-behind.layout.held at) (ap (λ (s : Size). s.triples) v.same_size) (v.left at (omega arith)) (room at here))))

pub returns-clause-complete : goal.returns-clause-complete
returns-clause-complete g c = λ h room. (refl, λ p b. omega (arith, c.loop-behind.invariant.raised p, (room p b).number))

pub loop-behind-init : goal.loop-behind-init
loop-behind-init g c = record {
  same_size = refl;
  laid_out = c.requires;
  same_pages = refl;
  healthy = λ h. h;
  slots = λ p i. refl;
  opened = λ q. refl;
  same_places = λ p. refl;
  left = λ p b. refl;
  bumped = λ before k e f. bumped_none _ before (g.F.MarkedFlash.marks c.args.flash.now) c.args.layout.now c.args.layout.now.pages k f;
  raised = λ p. omega arith;
}

pub returns-in_err-bump_where_begun-clause-sound : goal.returns-in_err-bump_where_begun-clause-sound
returns-in_err-bump_where_begun-clause-sound g c = λ before k e f.
    let v = c.loop-behind.invariant in
    let at = c.args.layout.now.pages - 1 - c.loop-behind.behind in
    let b = v.bumped before k e f in
    let sound = rw v.same_size at c.in_err-bump_where_begun.ensures.sound in
    let p = err_from_is_err_and c.from_residual.result c.from_residual.ensures.1 in
    rw p.1 (still_less _ before (g.F.MarkedFlash.marks c.loop-behind.flash) (g.F.MarkedFlash.marks c.bump_where_begun.new.flash) c.loop-behind.layout c.args.layout.now.pages c.loop-behind.behind at b
    (sound b.after b.sound (b.narrows.pages ∙ e ∙ sym v.same_pages) (b.found at (omega arith))))

pub returns-clause-sound : goal.returns-clause-sound
returns-clause-sound g c = λ before k e f.
    let v = c.loop-behind.invariant in
    let all : c.loop-behind.behind ≡ c.args.layout.now.pages = omega arith in
    calm_all _ before (g.F.MarkedFlash.marks c.loop-behind.flash) c.loop-behind.layout c.args.layout.now.pages v.laid_out e v.same_pages (rw all at (v.bumped before k e f))
