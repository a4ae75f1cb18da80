use Rattle.std.proofs.Common.{◌+◌, ◌*◌, ◌<◌}
use Rattle.std.proofs.lemmas.Result.{err_from_is_err_and}
use Rattle.steady_flash.specs.Marked.{OnePlace}
use Rattle.steady_flash.specs.Layout.{held_at}
use Rattle.steady_flash.specs.Moves.{IsTorn}
use Rattle.steady_flash.specs.Claims.{IsClaim, IsMarked}
use Rattle.steady_flash.specs.Sound.{zeros}
use Rattle.steady_flash.proofs.Cells.{marked_torn}
use Rattle.steady_flash.proofs.Session.{answered}
use Rattle.steady_flash.proofs.Words.{no_blank}
use Rattle.steady_flash.proofs.Soundness.{found_torn}
use Rattle.steady_flash.proofs.Adopting.{found_about, step_about}
use Rattle.steady_flash.proofs.Switching.{zeros_some}
use Rattle.steady_flash.proofs.Bumping.{firm_one, left_firm, left_unfirm}
use Rattle.steady_flash.proofs.moving.make_firm.Goals as goal

pub returns-in_err-program_mark-clause-sound : goal.returns-in_err-program_mark-clause-sound
returns-in_err-program_mark-clause-sound g c = λ before s pages found.
    let held = held_at c.args.layout.now.held c.args.page in
    let size = g.F.MarkedFlash.size c.args.flash.now in
    let zero = g.F.MarkedFlash.marks c.args.flash.now in
    let one = g.F.MarkedFlash.marks c.program_mark.new.flash in
    let b : c.args.page < before.layout.pages = rw pages c.requires.in_pages in
    let t : held.index < size.triples = c.requires.laid_out.placed.index c.args.page c.requires.in_pages in
    let others : OnePlace zero held.page (3 + 3 * held.index) one = rw c.about.ensures at c.program_mark.ensures.marks in
    let torn = found_about size zero before c.args.page held b t s found in
    let still : IsTorn zeros (one held.page (3 + 3 * held.index)) = (rw c.about.ensures at c.in_err-program_mark.ensures.outcome) torn zeros_some in
    let p = err_from_is_err_and c.from_residual.result c.from_residual.ensures.1 in
    rw p.1 (before, step_about size zero one before c.args.page held b t found others still ((rw c.about.ensures at c.program_mark.ensures.clear) torn zeros_some) s)

pub returns-clause-sound : goal.returns-clause-sound
returns-clause-sound g c = λ before s pages found.
    let held = held_at c.args.layout.now.held c.args.page in
    let size = g.F.MarkedFlash.size c.args.flash.now in
    let zero = g.F.MarkedFlash.marks c.args.flash.now in
    let one = g.F.MarkedFlash.marks c.program_mark.new.flash in
    let b : c.args.page < before.layout.pages = rw pages c.requires.in_pages in
    let two = g.F.MarkedFlash.marks c.program_mark-2.new.flash in
    let t : held.index < size.triples = c.requires.laid_out.placed.index c.args.page c.requires.in_pages in
    let others : OnePlace zero held.page (3 + 3 * held.index) one = rw c.about.ensures at c.program_mark.ensures.marks in
    let torn = found_about size zero before c.args.page held b t s found in
    let marked : IsMarked zeros (one held.page (3 + 3 * held.index)) = (rw c.about.ensures at c.in_ok-program_mark.ensures.outcome) torn zeros_some in
    let less = (rw c.about.ensures at c.program_mark.ensures.clear) torn zeros_some in
    let claims : IsClaim before.layout.pages held.page c.args.page held.number c.claim_bytes.result = rw pages (rw (c.place.ensures.pages, c.place.ensures.at) at c.claim_bytes.ensures) in
    let others' : OnePlace one held.page (1 + 3 * held.index) two = rw c.claim.ensures at c.program_mark-2.ensures.marks in
    let x = firm_one size zero one before c.args.page held b t s found others (marked_torn zeros _ marked) less in
    let torn' : IsTorn c.claim_bytes.result (one held.page (1 + 3 * held.index)) = found_torn size one before c.args.page held c.claim_bytes.result b t x.0.sound x.1 claims in
    let some = no_blank c.claim_bytes.result claims.word in
    let again : IsMarked c.claim_bytes.result (one held.page (1 + 3 * held.index)) → IsMarked c.claim_bytes.result (two held.page (1 + 3 * held.index)) = (λ m. (rw c.claim.ensures at c.program_mark-2.ensures.whole) m some) in
    answered c.program_mark-2.result _ _ _ _
    (λ _ whole. left_firm size zero one two before c.args.page held c.claim_bytes.result b t s found others marked less others' claims again whole)
    (λ _ still. left_unfirm size zero one two before c.args.page held c.claim_bytes.result b t s found others (marked_torn zeros _ marked) less others' claims again still)
    ((rw c.claim.ensures at c.program_mark-2.ensures.outcome) torn' some)
