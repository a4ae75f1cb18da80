use Rattle.std.proofs.Common.{arith, refl, false, length, ◌+◌, ◌*◌, ◌<◌}
use Rattle.std.proofs.lemmas.List.{get_or-set_same}
use Rattle.std.proofs.lemmas.Result.{err_from_is_err_and}
use Rattle.steady_flash.specs.Marked.{OnePlace}
use Rattle.steady_flash.specs.Layout.{held_at}
use Rattle.steady_flash.specs.Moves.{IsTorn}
use Rattle.steady_flash.specs.Claims.{IsClaim, IsMarked}
use Rattle.steady_flash.specs.Sound.{IsBumped}
use Rattle.steady_flash.specs.declared.layout.Held.{Held}
use Rattle.steady_flash.proofs.Layouts.{laid_bumped}
use Rattle.steady_flash.proofs.Words.{no_blank}
use Rattle.steady_flash.proofs.Bumping.{next_torn, left_outbid, left_bumped, bumped_left, either}
use Rattle.steady_flash.proofs.moving.outbid.Goals as goal

pub returns-clause-laid_out : goal.returns-clause-laid_out
returns-clause-laid_out g c = laid_bumped _ c.args.layout.now c.args.page _ c.requires.laid_out c.requires.in_pages refl c.requires.room c.requires.small

pub returns-in_err-program_mark-clause-sound : goal.returns-in_err-program_mark-clause-sound
returns-in_err-program_mark-clause-sound g c = λ before s pages same about.
    let now = held_at c.args.layout.now.held c.args.page in
    let next : Held = record { page = now.page; index = now.index + 1; number = now.number + 2; is_opened = false } in
    let size = g.F.MarkedFlash.size c.args.flash.now in
    let zero = g.F.MarkedFlash.marks c.args.flash.now in
    let one = g.F.MarkedFlash.marks c.program_mark.new.flash in
    let b : c.args.page < before.layout.pages = rw pages c.requires.in_pages in
    let claims : IsClaim before.layout.pages next.page c.args.page next.number c.claim_bytes.result = rw pages (rw (c.place.ensures.pages, c.place.ensures.at) at c.claim_bytes.ensures) in
    let x = next_torn size zero before c.args.page now next c.claim_bytes.result b s same about refl refl refl c.requires.room claims in
    let others : OnePlace zero next.page (1 + 3 * next.index) one = rw c.claim.ensures at c.program_mark.ensures.marks in
    let some = no_blank c.claim_bytes.result claims.word in
    let again : IsMarked c.claim_bytes.result (zero next.page (1 + 3 * next.index)) → IsMarked c.claim_bytes.result (one next.page (1 + 3 * next.index)) = (λ m. (rw c.claim.ensures at c.program_mark.ensures.whole) m some) in
    let still : IsTorn c.claim_bytes.result (one next.page (1 + 3 * next.index)) = (rw c.claim.ensures at c.in_err-program_mark.ensures.outcome) x.1 some in
    let p = err_from_is_err_and c.from_residual.result c.from_residual.ensures.1 in
    rw p.1 (left_outbid size zero one before c.args.page next c.claim_bytes.result b c.requires.room s x.0 others claims still again)

pub returns-clause-sound : goal.returns-clause-sound
returns-clause-sound g c = λ before s pages same about.
    let now = held_at c.args.layout.now.held c.args.page in
    let next : Held = record { page = now.page; index = now.index + 1; number = now.number + 2; is_opened = false } in
    let size = g.F.MarkedFlash.size c.args.flash.now in
    let zero = g.F.MarkedFlash.marks c.args.flash.now in
    let one = g.F.MarkedFlash.marks c.program_mark.new.flash in
    let b : c.args.page < before.layout.pages = rw pages c.requires.in_pages in
    let claims : IsClaim before.layout.pages next.page c.args.page next.number c.claim_bytes.result = rw pages (rw (c.place.ensures.pages, c.place.ensures.at) at c.claim_bytes.ensures) in
    let x = next_torn size zero before c.args.page now next c.claim_bytes.result b s same about refl refl refl c.requires.room claims in
    let others : OnePlace zero next.page (1 + 3 * next.index) one = rw c.claim.ensures at c.program_mark.ensures.marks in
    let some = no_blank c.claim_bytes.result claims.word in
    let again : IsMarked c.claim_bytes.result (zero next.page (1 + 3 * next.index)) → IsMarked c.claim_bytes.result (one next.page (1 + 3 * next.index)) = (λ m. (rw c.claim.ensures at c.program_mark.ensures.whole) m some) in
    let two = g.F.MarkedFlash.marks c.program_mark-2.new.flash in
    let whole : IsMarked c.claim_bytes.result (one next.page (1 + 3 * next.index)) = (rw c.claim.ensures at c.in_ok-program_mark.ensures.outcome) x.1 some in
    let others' : OnePlace one next.page (2 + 3 * next.index) two = rw c.done.ensures at c.program_mark-2.ensures.marks in
    let bumped : IsBumped size zero before c.args.page two next = left_bumped size zero one two before c.args.page now next c.claim_bytes.result b c.requires.room s same refl refl refl x.0 others claims whole again others' in
    let in_held : c.args.page < length c.args.layout.now.held = omega (arith, c.requires.laid_out.placed.eight, c.requires.laid_out.placed.served.most) in
    rw (get_or-set_same {A = Held} c.args.layout.now.held c.args.page next (record { page = 0; index = 0; number = 0; is_opened = false }) in_held) (either c.program_mark-2.result _ _ bumped (bumped_left size zero two before c.args.page next bumped))
