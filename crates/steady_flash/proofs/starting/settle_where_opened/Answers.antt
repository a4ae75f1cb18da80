use Rattle.std.proofs.Common.{rules}
use Rattle.steady_flash.specs.Cells.{IsReading, blank}
use Rattle.steady_flash.specs.Layout.{held_at}
use Rattle.std.proofs.lemmas.Result.{err_from_is_err_and}
use Rattle.steady_flash.proofs.Shrinking.{shrinks_itself, shrinks_moved, shrunk_stopped}
use Rattle.steady_flash.proofs.Settling.{settled_itself, settled_by_move, untouched_itself, untouched_by_move}
use Rattle.steady_flash.proofs.starting.settle_where_opened.Goals as goal

pub returns-then-held-triples-clause-settled : goal.returns-then-held-triples-clause-settled
returns-then-held-triples-clause-settled g c = λ told.
    let read : IsReading (g.F.MarkedFlash.marks c.args.flash.now (held_at c.args.layout.now.held c.args.page).page 0).cells blank = search rules in
    settled_itself (g.F.MarkedFlash.marks c.args.flash.now) (g.F.MarkedFlash.slots c.args.flash.now) c.args.layout.now c.args.page told read

pub returns-then-held-triples-clause-others : goal.returns-then-held-triples-clause-others
returns-then-held-triples-clause-others g c = λ p b apart. untouched_itself (g.F.MarkedFlash.marks c.args.flash.now) (g.F.MarkedFlash.slots c.args.flash.now) c.args.layout.now p

pub returns-clause-settled : goal.returns-clause-settled
returns-clause-settled g c = λ told. settled_by_move (g.F.MarkedFlash.size c.args.flash.now) c.args.layout.now c.move_page.new.layout (g.F.MarkedFlash.slots c.args.flash.now) (g.F.MarkedFlash.slots c.move_page.new.flash) c.args.page c.requires.laid_out c.requires.in_pages c.in_ok-move_page.ensures.copied c.in_ok-move_page.ensures.moved

pub returns-clause-others : goal.returns-clause-others
returns-clause-others g c = λ p b apart. untouched_by_move (g.F.MarkedFlash.size c.args.flash.now) c.args.layout.now c.move_page.new.layout (g.F.MarkedFlash.marks c.args.flash.now) (g.F.MarkedFlash.slots c.args.flash.now) (g.F.MarkedFlash.marks c.move_page.new.flash) (g.F.MarkedFlash.slots c.move_page.new.flash) c.args.page p c.requires.laid_out b apart c.move_page.ensures.others c.move_page.ensures.opened c.in_ok-move_page.ensures.moved

pub returns-then-held-triples-clause-sound : goal.returns-then-held-triples-clause-sound
returns-then-held-triples-clause-sound g c = λ k. (k, shrinks_itself _ _ (g.F.MarkedFlash.marks c.args.flash.now) (g.F.MarkedFlash.slots c.args.flash.now) k.sound)

pub returns-in_err-move_page-clause-sound : goal.returns-in_err-move_page-clause-sound
returns-in_err-move_page-clause-sound g c = λ k.
    let p = err_from_is_err_and c.from_residual.result c.from_residual.ensures.1 in
    rw p.1 (shrunk_stopped _ c.args.layout.now c.args.page (g.F.MarkedFlash.marks c.args.flash.now) (g.F.MarkedFlash.slots c.args.flash.now) (g.F.MarkedFlash.marks c.move_page.new.flash) (g.F.MarkedFlash.slots c.move_page.new.flash) _ (c.in_err-move_page.ensures.calm k) c.move_page.ensures.others c.move_page.ensures.opened c.in_err-move_page.ensures.copied)

pub returns-clause-sound : goal.returns-clause-sound
returns-clause-sound g c = λ k.
    let calm = c.in_ok-move_page.ensures.calm k in
    (calm, shrinks_moved _ c.args.layout.now c.move_page.new.layout c.args.page (g.F.MarkedFlash.marks c.args.flash.now) (g.F.MarkedFlash.slots c.args.flash.now) (g.F.MarkedFlash.marks c.move_page.new.flash) (g.F.MarkedFlash.slots c.move_page.new.flash) c.in_ok-move_page.ensures.moved c.requires.in_pages c.requires.laid_out calm c.move_page.ensures.others c.move_page.ensures.opened c.in_ok-move_page.ensures.copied)
