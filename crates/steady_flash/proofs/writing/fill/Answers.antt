use Rattle.std.proofs.Common.{arith, ◌<◌, ◌∙◌}
use Rattle.steady_flash.specs.Shown.{IsKept}
use Rattle.steady_flash.proofs.Switching.{calm_same}
use Rattle.steady_flash.proofs.Cutting.{fill_cut}
use Rattle.steady_flash.specs.Layout.{held_at}
use Rattle.steady_flash.proofs.Claiming.{claimed_same}
use Rattle.steady_flash.proofs.Session.{kept_by_same, kept_torn, settled_but, others_in_place, torn_into, doubted_from, left_as}
use Rattle.steady_flash.proofs.writing.fill.Goals as goal

pub returns-then-is_err-clause-outcome : goal.returns-then-is_err-clause-outcome
returns-then-is_err-clause-outcome g c settled e some =
    kept_torn c.args.layout.now c.open.new.layout _ _ c.args.page c.args.slot c.args.bytes c.requires.in_pages c.requires.in_page (kept_by_same c.args.layout.now c.open.new.layout _ _ settled c.open.ensures.slots c.open.ensures.same_pages c.open.ensures.same_places) e

pub returns-in-Err-clause-outcome : goal.returns-in-Err-clause-outcome
returns-in-Err-clause-outcome g c settled e some =
    let k : IsKept (g.F.MarkedFlash.slots c.args.flash.now) c.args.layout.now (g.F.MarkedFlash.slots c.open.new.flash) c.open.new.layout = kept_by_same c.args.layout.now c.open.new.layout _ _ settled c.open.ensures.slots c.open.ensures.same_pages c.open.ensures.same_places in
    let b : c.args.page < c.open.new.layout.pages = rw c.open.ensures.same_pages c.requires.in_pages in
    let free = (k.settled c.args.page c.args.slot b c.requires.in_page).erased_if_blank (k.same c.args.page c.args.slot c.requires.in_pages c.requires.in_page ∙ e) in
    let torn = c.in-Err.ensures.outcome free some in
    let but = settled_but _ c.open.new.layout _ _ c.args.page c.args.slot c.open.ensures.laid_out b k.settled c.program_slot.ensures.others in
    left_as c.settle.result _ _ _ _
    (torn_into c.args.layout.now _ _ _ _ c.open.new.layout c.args.page c.args.slot c.args.bytes (λ p s h m apart. others_in_place _ c.open.new.layout _ _ c.args.page c.args.slot p s c.open.ensures.laid_out b (rw c.open.ensures.same_pages h) c.program_slot.ensures.others apart ∙ k.same p s h m) c.open.ensures.same_pages)
    (doubted_from c.args.layout.now _ _ _ _ c.open.new.layout c.args.page c.args.slot (λ p s h m apart. others_in_place _ c.open.new.layout _ _ c.args.page c.args.slot p s c.open.ensures.laid_out b (rw c.open.ensures.same_pages h) c.program_slot.ensures.others apart ∙ k.same p s h m) c.open.ensures.same_pages)
    (c.settle.ensures.outcome c.args.bytes c.requires.eight but torn)

pub returns-in-Ok-clause-claimed : goal.returns-in-Ok-clause-claimed
returns-in-Ok-clause-claimed g c = λ k.
    claimed_same _ (g.F.MarkedFlash.marks c.open.new.flash) (g.F.MarkedFlash.marks c.program_slot.new.flash) c.open.new.layout c.program_slot.ensures.marks (c.open.ensures.claimed k)

pub returns-in-Err-clause-numbers : goal.returns-in-Err-clause-numbers
returns-in-Err-clause-numbers g c = λ p. omega (arith, c.settle.ensures.numbers p, c.open.ensures.numbers p)

pub returns-in-Ok-clause-calm : goal.returns-in-Ok-clause-calm
returns-in-Ok-clause-calm g c = λ k.
    calm_same _ (g.F.MarkedFlash.marks c.open.new.flash) (g.F.MarkedFlash.marks c.program_slot.new.flash) c.open.new.layout c.program_slot.ensures.marks (c.open.ensures.calm k)

pub returns-in-Err-clause-calm : goal.returns-in-Err-clause-calm
returns-in-Err-clause-calm g c = λ k.
    let x = c.settle.ensures.calm (rw (c.program_slot.ensures.same_size, c.open.ensures.same_size) (calm_same _ (g.F.MarkedFlash.marks c.open.new.flash) (g.F.MarkedFlash.marks c.program_slot.new.flash) c.open.new.layout c.program_slot.ensures.marks (c.open.ensures.calm k))) in
    rw (c.program_slot.ensures.same_size, c.open.ensures.same_size) at x

pub returns-in-Err-clause-cut : goal.returns-in-Err-clause-cut
returns-in-Err-clause-cut g c k settled e some torn_not =
    let l = c.args.layout.now in
    let old = g.F.MarkedFlash.slots c.args.flash.now in
    let kept : IsKept old l (g.F.MarkedFlash.slots c.open.new.flash) c.open.new.layout = kept_by_same l c.open.new.layout _ _ settled c.open.ensures.slots c.open.ensures.same_pages c.open.ensures.same_places in
    let b : c.args.page < c.open.new.layout.pages = rw c.open.ensures.same_pages c.requires.in_pages in
    let free = (kept.settled c.args.page c.args.slot b c.requires.in_page).erased_if_blank (kept.same c.args.page c.args.slot c.requires.in_pages c.requires.in_page ∙ e) in
    let torn = c.in-Err.ensures.outcome free some in
    let place = c.open.ensures.same_places c.args.page in
    let calm = calm_same _ (g.F.MarkedFlash.marks c.open.new.flash) (g.F.MarkedFlash.marks c.program_slot.new.flash) c.open.new.layout c.program_slot.ensures.marks (c.open.ensures.calm k) in
    let shrunk = c.settle.ensures.cut (rw (c.program_slot.ensures.same_size, c.open.ensures.same_size) calm) torn_not in
    fill_cut _ old (g.F.MarkedFlash.slots c.open.new.flash) (g.F.MarkedFlash.slots c.program_slot.new.flash) (g.F.MarkedFlash.slots c.settle.new.flash) (g.F.MarkedFlash.marks c.program_slot.new.flash) (g.F.MarkedFlash.marks c.settle.new.flash) l c.open.new.layout c.args.page c.args.slot c.args.bytes
    c.requires.laid_out settled c.requires.in_pages c.requires.in_page c.requires.eight e c.open.ensures.slots c.open.ensures.same_pages c.open.ensures.same_places (rw place at c.program_slot.ensures.others) (rw place at torn)
    (c.settle.ensures.opened (held_at l.held c.args.page).page (λ f. c.open.ensures.laid_out.free c.args.page b (place ∙ f)))
    (rw (c.program_slot.ensures.same_size, c.open.ensures.same_size) at shrunk)
