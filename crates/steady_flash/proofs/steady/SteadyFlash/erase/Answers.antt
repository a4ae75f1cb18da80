use Rattle.std.proofs.Common.{rules, arith, ◌≡◌, ◌∙◌, None, false}
use Rattle.std.proofs.lemmas.Bool.{false≢true}
use Rattle.steady_flash.specs.Moves.{moved}
use Rattle.steady_flash.proofs.Calm.{stopped_sound, sound_after, sound_same, stopped_moving, stopped_calm}
use Rattle.steady_flash.proofs.Cutting.{cut_as, erase_refused, erase_failed, erase_whole, erase_moving}
use Rattle.steady_flash.specs.Sound.{moving_at}
use Rattle.steady_flash.proofs.Session.{blanked_by_move, kept_by_spare, erases_of, keeps_erase}
use Rattle.steady_flash.proofs.Doubts.{settled_all, erases_as, may_erase_as}
use Rattle.steady_flash.proofs.steady.SteadyFlash.erase.Goals as goal

pub returns-in-Ok-clause-outcome : goal.returns-in-Ok-clause-outcome
returns-in-Ok-clause-outcome g c b =
    let l = c.args.self.now.layout in
    let none : c.args.self.now.in_doubt ≡ None = search rules in
    let x = blanked_by_move _ l (g.F.MarkedFlash.slots c.args.self.now.flash) (g.F.MarkedFlash.slots c.erase_page.new.flash) c.args.page c.args.self.now.laid_out b (settled_all (g.F.MarkedFlash.slots c.args.self.now.flash) l c.args.self.now.in_doubt none c.args.self.now.settled) c.erase_page.ensures.others c.in-Ok.ensures.erased in
    rw c.in-Ok.ensures.moved (erases_as (g.F.MarkedFlash.slots c.args.self.now.flash) (g.F.MarkedFlash.slots c.erase_page.new.flash) l (moved l c.args.page) c.args.self.now.in_doubt c.args.self.now.in_doubt c.args.page none none (erases_of l (moved l c.args.page) (g.F.MarkedFlash.slots c.args.self.now.flash) (g.F.MarkedFlash.slots c.erase_page.new.flash) c.args.page b x))

pub returns-in-Err-InDoubt-clause-outcome : goal.returns-in-Err-InDoubt-clause-outcome
returns-in-Err-InDoubt-clause-outcome g c b =
    let l = c.args.self.now.layout in
    let none : c.args.self.now.in_doubt ≡ None = search rules in
    let k = kept_by_spare _ l (g.F.MarkedFlash.slots c.args.self.now.flash) (g.F.MarkedFlash.slots c.give_up.new.self) c.args.self.now.laid_out (settled_all (g.F.MarkedFlash.slots c.args.self.now.flash) l c.args.self.now.in_doubt none c.args.self.now.settled) (λ p s apart. c.give_up.ensures.slots p s ∙ c.erase_page.ensures.others p s apart) in
    rw c.in-Err-InDoubt.ensures.moved (may_erase_as (g.F.MarkedFlash.slots c.args.self.now.flash) (g.F.MarkedFlash.slots c.give_up.new.self) l l c.args.self.now.in_doubt c.args.self.now.in_doubt c.args.page none none (keeps_erase l l (g.F.MarkedFlash.slots c.args.self.now.flash) (g.F.MarkedFlash.slots c.give_up.new.self) c.args.page k))

pub returns-in-Err-clause-outcome : goal.returns-in-Err-clause-outcome
returns-in-Err-clause-outcome g c b =
    let l = c.args.self.now.layout in
    let none : c.args.self.now.in_doubt ≡ None = search rules in
    let k = kept_by_spare _ l (g.F.MarkedFlash.slots c.args.self.now.flash) (g.F.MarkedFlash.slots c.erase_page.new.flash) c.args.self.now.laid_out (settled_all (g.F.MarkedFlash.slots c.args.self.now.flash) l c.args.self.now.in_doubt none c.args.self.now.settled) c.erase_page.ensures.others in
    rw c.in-Err.ensures.moved (may_erase_as (g.F.MarkedFlash.slots c.args.self.now.flash) (g.F.MarkedFlash.slots c.erase_page.new.flash) l l c.args.self.now.in_doubt c.args.self.now.in_doubt c.args.page none none (keeps_erase l l (g.F.MarkedFlash.slots c.args.self.now.flash) (g.F.MarkedFlash.slots c.erase_page.new.flash) c.args.page k))

pub returns-in-Err-clause-healthy : goal.returns-in-Err-clause-healthy
returns-in-Err-clause-healthy g c = λ h lost none b n. absurd (false≢true ((c.in-Err.ensures.healthy h).2 (omega (arith, n))))

pub returns-in-Err-InDoubt-clause-steady : goal.returns-in-Err-InDoubt-clause-steady
returns-in-Err-InDoubt-clause-steady g c = λ k.
    let lost : c.args.self.now.is_lost ≡ false = search rules in
    let x = sound_after _ (g.F.MarkedFlash.marks c.erase_page.new.flash) (g.F.MarkedFlash.marks c.give_up.new.self) c.give_up.ensures.marks (stopped_sound _ (g.F.MarkedFlash.marks c.erase_page.new.flash) c.args.self.now.layout c.args.page c.in-Err-InDoubt.field-0 (c.in-Err-InDoubt.ensures.calm (rw lost at k))) in
    rw (c.give_up.ensures.same_size, c.erase_page.ensures.same_size) x

pub returns-then-not-takes-clause-cut : goal.returns-then-not-takes-clause-cut
returns-then-not-takes-clause-cut g c k lost none b =
    let l = c.args.self.now.layout in
    let old = g.F.MarkedFlash.slots c.args.self.now.flash in
    cut_as _ (g.F.MarkedFlash.marks c.args.self.now.flash) old old l c.args.self.now.in_doubt c.args.page l.pages none (erase_refused _ (g.F.MarkedFlash.marks c.args.self.now.flash) old l c.args.page (rw lost at k) (settled_all old l c.args.self.now.in_doubt none c.args.self.now.settled))

pub returns-in-Ok-clause-cut : goal.returns-in-Ok-clause-cut
returns-in-Ok-clause-cut g c k lost none b =
    let l = c.args.self.now.layout in
    let old = g.F.MarkedFlash.slots c.args.self.now.flash in
    let new = g.F.MarkedFlash.slots c.erase_page.new.flash in
    let marks = g.F.MarkedFlash.marks c.erase_page.new.flash in
    let settled = settled_all old l c.args.self.now.in_doubt none c.args.self.now.settled in
    let x = blanked_by_move _ l old new c.args.page c.args.self.now.laid_out b settled c.erase_page.ensures.others c.in-Ok.ensures.erased in
    let calm = rw c.in-Ok.ensures.moved at (c.in-Ok.ensures.calm (rw lost at k)) in
    rw c.erase_page.ensures.same_size (cut_as _ marks old new l c.args.self.now.in_doubt c.args.page l.pages none (erase_whole _ marks old new l (moved l c.args.page) c.args.page c.args.self.now.laid_out b settled calm x))

pub returns-in-Err-InDoubt-clause-cut : goal.returns-in-Err-InDoubt-clause-cut
returns-in-Err-InDoubt-clause-cut g c k lost none b =
    let l = c.args.self.now.layout in
    let old = g.F.MarkedFlash.slots c.args.self.now.flash in
    let mid = g.F.MarkedFlash.marks c.erase_page.new.flash in
    let new = g.F.MarkedFlash.slots c.give_up.new.self in
    let marks = g.F.MarkedFlash.marks c.give_up.new.self in
    let settled = settled_all old l c.args.self.now.in_doubt none c.args.self.now.settled in
    let sound = sound_same _ mid marks (moving_at l c.args.page) c.give_up.ensures.marks (stopped_moving _ mid l c.args.page c.in-Err-InDoubt.field-0 c.in-Err-InDoubt.field-0-is (c.in-Err-InDoubt.ensures.calm (rw lost at k))) in
    rw (c.give_up.ensures.same_size, c.erase_page.ensures.same_size) (cut_as _ marks old new l c.args.self.now.in_doubt c.args.page l.pages none
    (erase_moving _ marks old new l c.args.page sound b settled (λ p s apart. c.give_up.ensures.slots p s ∙ c.erase_page.ensures.others p s apart) (λ s t. c.give_up.ensures.slots l.spare s ∙ c.in-Err-InDoubt.ensures.erased c.in-Err-InDoubt.field-0-is s t)))

pub returns-in-Err-clause-cut : goal.returns-in-Err-clause-cut
returns-in-Err-clause-cut g c k lost none b =
    let l = c.args.self.now.layout in
    let old = g.F.MarkedFlash.slots c.args.self.now.flash in
    let new = g.F.MarkedFlash.slots c.erase_page.new.flash in
    let marks = g.F.MarkedFlash.marks c.erase_page.new.flash in
    let settled = settled_all old l c.args.self.now.in_doubt none c.args.self.now.settled in
    let calm = stopped_calm _ marks l c.args.page c.in-Err.field-0 (λ e. search rules) (c.in-Err.ensures.calm (rw lost at k)) in
    rw c.erase_page.ensures.same_size (cut_as _ marks old new l c.args.self.now.in_doubt c.args.page l.pages none (erase_failed _ marks old new l c.args.page calm (kept_by_spare _ l old new c.args.self.now.laid_out settled c.erase_page.ensures.others)))
