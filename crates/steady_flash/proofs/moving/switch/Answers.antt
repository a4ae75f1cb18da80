use Rattle.std.proofs.Common.{arith, refl, sym, false, length, ℕ, ◌+◌, ◌*◌, ◌<◌}
use Rattle.std.proofs.lemmas.List.{get_or-set_same}
use Rattle.std.proofs.lemmas.Result.{err_from_is_err_and}
use Rattle.steady_flash.specs.declared.layout.Held.{Held}
use Rattle.steady_flash.specs.declared.layout.Layout.{Layout}
use Rattle.steady_flash.specs.Cells.{Written}
use Rattle.steady_flash.specs.Marked.{OnePlace}
use Rattle.steady_flash.specs.Layout.{held_at}
use Rattle.steady_flash.specs.Moves.{IsTorn, moved}
use Rattle.steady_flash.specs.Claims.{IsMarked}
use Rattle.steady_flash.specs.Sound.{zeros, IsCalm, IsAbout, IsSound, moving_at}
use Rattle.steady_flash.proofs.Cells.{marked_torn}
use Rattle.steady_flash.proofs.Layouts.{laid_moved}
use Rattle.steady_flash.proofs.Claiming.{switched, claimed_moved}
use Rattle.steady_flash.proofs.Adopting.{zeros_read}
use Rattle.steady_flash.proofs.Switching.{calm_about, calm_done, calm_moved, sound_claimed, zeros_some, erased_still, torn_there, stopped_fault, stopped_in_doubt}
use Rattle.steady_flash.proofs.moving.switch.Goals as goal

pub returns-clause-laid_out : goal.returns-clause-laid_out
returns-clause-laid_out g c = laid_moved _ c.args.layout.now c.args.page _ c.requires.laid_out c.requires.in_pages refl (omega (arith, c.requires.laid_out.placed.served.few)) (omega arith)

pub returns-clause-claimed : goal.returns-clause-claimed
returns-clause-claimed g c = λ k gone.
    let l = c.args.layout.now in
    let about = rw c.about.ensures at c.program_mark.ensures.marks in
    let gone1 = erased_still (g.F.MarkedFlash.marks c.args.flash.now) (g.F.MarkedFlash.marks c.program_mark.new.flash) (g.F.MarkedFlash.size c.args.flash.now).triples l.spare _ _ (λ e. c.requires.laid_out.free c.args.page c.requires.in_pages (sym e)) about gone in
    let there = c.in_ok-claim_spare.ensures.outcome in
    let marked = there.2 (torn_there (g.F.MarkedFlash.marks c.program_mark.new.flash) (g.F.MarkedFlash.size c.args.flash.now) l there.0 c.requires.laid_out gone1 there.1.word.eight) in
    let done = rw c.done.ensures at c.program_mark-done.ensures.others in
    claimed_moved (g.F.MarkedFlash.size c.args.flash.now) (g.F.MarkedFlash.marks c.args.flash.now) _ l c.args.page c.requires.in_pages (omega arith) k
    (switched (g.F.MarkedFlash.size c.args.flash.now) (g.F.MarkedFlash.marks c.args.flash.now) (g.F.MarkedFlash.marks c.program_mark.new.flash) (g.F.MarkedFlash.marks c.claim_spare.new.flash) _ l.pages l.spare c.args.page _ _ _ there.0 about c.claim_spare.ensures.marks done there.1 marked)

done_there : (layout : Layout) (page : ℕ) (marks marks' : ℕ → ℕ → Written) → page < length layout.held → OnePlace marks layout.spare 2 marks' → OnePlace marks (held_at (moved layout page).held page).page (2 + 3 * (held_at (moved layout page).held page).index) marks'
done_there layout page marks marks' b o = rw (get_or-set_same {A = Held} layout.held page (record { page = layout.spare; index = 0; number = (held_at layout.held page).number + 1; is_opened = false }) (record { page = 0; index = 0; number = 0; is_opened = false }) b) o

pub returns-in_err-program_mark-clause-calm : goal.returns-in_err-program_mark-clause-calm
returns-in_err-program_mark-clause-calm g c = λ k gone.
    let l = c.args.layout.now in
    let now = held_at l.held c.args.page in
    let size = g.F.MarkedFlash.size c.args.flash.now in
    let b = c.requires.in_pages in
    let about : OnePlace (g.F.MarkedFlash.marks c.args.flash.now) now.page (3 + 3 * now.index) (g.F.MarkedFlash.marks c.program_mark.new.flash) = rw c.about.ensures at c.program_mark.ensures.marks in
    let torn = (k.sound.held c.args.page b).about in
    let still : IsTorn zeros (g.F.MarkedFlash.marks c.program_mark.new.flash now.page (3 + 3 * now.index)) = (rw c.about.ensures at c.in_err-program_mark.ensures.outcome) torn zeros_some in
    let one : IsCalm size (g.F.MarkedFlash.marks c.program_mark.new.flash) l = calm_about size (g.F.MarkedFlash.marks c.args.flash.now) (g.F.MarkedFlash.marks c.program_mark.new.flash) l c.args.page b about still ((rw c.about.ensures at c.program_mark.ensures.clear) torn zeros_some) k in
    let p = err_from_is_err_and c.from_residual.result c.from_residual.ensures.1 in
    rw (p.1, p.2) (stopped_fault size (g.F.MarkedFlash.marks c.program_mark.new.flash) l c.args.page _ c.in_err-program_mark.ensures.fault one)

pub returns-in_err-claim_spare-clause-calm : goal.returns-in_err-claim_spare-clause-calm
returns-in_err-claim_spare-clause-calm g c = λ k gone.
    let l = c.args.layout.now in
    let now = held_at l.held c.args.page in
    let size = g.F.MarkedFlash.size c.args.flash.now in
    let b = c.requires.in_pages in
    let about : OnePlace (g.F.MarkedFlash.marks c.args.flash.now) now.page (3 + 3 * now.index) (g.F.MarkedFlash.marks c.program_mark.new.flash) = rw c.about.ensures at c.program_mark.ensures.marks in
    let torn = (k.sound.held c.args.page b).about in
    let marked : IsMarked zeros (g.F.MarkedFlash.marks c.program_mark.new.flash now.page (3 + 3 * now.index)) = (rw c.about.ensures at c.in_ok-program_mark.ensures.outcome) torn zeros_some in
    let one : IsCalm size (g.F.MarkedFlash.marks c.program_mark.new.flash) l = calm_about size (g.F.MarkedFlash.marks c.args.flash.now) (g.F.MarkedFlash.marks c.program_mark.new.flash) l c.args.page b about (marked_torn zeros _ marked) ((rw c.about.ensures at c.program_mark.ensures.clear) torn zeros_some) k in
    let gone1 = erased_still (g.F.MarkedFlash.marks c.args.flash.now) (g.F.MarkedFlash.marks c.program_mark.new.flash) size.triples l.spare _ _ (λ e. c.requires.laid_out.free c.args.page b (sym e)) about gone in
    let there = c.in_err-claim_spare.ensures.outcome in
    let still = there.2 (torn_there (g.F.MarkedFlash.marks c.program_mark.new.flash) size l there.0 c.requires.laid_out gone1 there.1.word.eight) in
    let two : IsSound size (g.F.MarkedFlash.marks c.claim_spare.new.flash) (moving_at l c.args.page) = sound_claimed size (g.F.MarkedFlash.marks c.program_mark.new.flash) (g.F.MarkedFlash.marks c.claim_spare.new.flash) l c.args.page there.0 b (zeros_read _ marked) gone1 c.claim_spare.ensures.marks there.1 still one in
    let p = err_from_is_err_and c.from_residual-in_err-claim_spare.result c.from_residual-in_err-claim_spare.ensures.1 in
    rw (p.1, p.2) (stopped_in_doubt size (g.F.MarkedFlash.marks c.claim_spare.new.flash) l c.args.page _ c.in_err-claim_spare.ensures.in_doubt two)

pub returns-clause-calm : goal.returns-clause-calm
returns-clause-calm g c = λ k gone.
    let l = c.args.layout.now in
    let now = held_at l.held c.args.page in
    let size = g.F.MarkedFlash.size c.args.flash.now in
    let b = c.requires.in_pages in
    let about : OnePlace (g.F.MarkedFlash.marks c.args.flash.now) now.page (3 + 3 * now.index) (g.F.MarkedFlash.marks c.program_mark.new.flash) = rw c.about.ensures at c.program_mark.ensures.marks in
    let torn = (k.sound.held c.args.page b).about in
    let marked : IsMarked zeros (g.F.MarkedFlash.marks c.program_mark.new.flash now.page (3 + 3 * now.index)) = (rw c.about.ensures at c.in_ok-program_mark.ensures.outcome) torn zeros_some in
    let one : IsCalm size (g.F.MarkedFlash.marks c.program_mark.new.flash) l = calm_about size (g.F.MarkedFlash.marks c.args.flash.now) (g.F.MarkedFlash.marks c.program_mark.new.flash) l c.args.page b about (marked_torn zeros _ marked) ((rw c.about.ensures at c.program_mark.ensures.clear) torn zeros_some) k in
    let is_about : IsAbout (g.F.MarkedFlash.marks c.program_mark.new.flash) now = zeros_read _ marked in
    let gone1 = erased_still (g.F.MarkedFlash.marks c.args.flash.now) (g.F.MarkedFlash.marks c.program_mark.new.flash) size.triples l.spare _ _ (λ e. c.requires.laid_out.free c.args.page b (sym e)) about gone in
    let there = c.in_ok-claim_spare.ensures.outcome in
    let whole = there.2 (torn_there (g.F.MarkedFlash.marks c.program_mark.new.flash) size l there.0 c.requires.laid_out gone1 there.1.word.eight) in
    let two : IsSound size (g.F.MarkedFlash.marks c.claim_spare.new.flash) (moving_at l c.args.page) = sound_claimed size (g.F.MarkedFlash.marks c.program_mark.new.flash) (g.F.MarkedFlash.marks c.claim_spare.new.flash) l c.args.page there.0 b is_about gone1 c.claim_spare.ensures.marks there.1 (marked_torn there.0 _ whole) one in
    let three : IsCalm size (g.F.MarkedFlash.marks c.claim_spare.new.flash) (moved l c.args.page) = calm_moved size (g.F.MarkedFlash.marks c.program_mark.new.flash) (g.F.MarkedFlash.marks c.claim_spare.new.flash) l c.args.page there.0 b c.claim_spare.ensures.marks there.1 whole two one in
    let in_held : c.args.page < length l.held = omega (arith, c.requires.laid_out.placed.eight, c.requires.laid_out.placed.served.most) in
    calm_done size (g.F.MarkedFlash.marks c.claim_spare.new.flash) (g.F.MarkedFlash.marks c.program_mark-done.new.self) (moved l c.args.page) c.args.page b
    (done_there l c.args.page _ _ in_held (rw c.done.ensures at c.program_mark-done.ensures.others)) three
