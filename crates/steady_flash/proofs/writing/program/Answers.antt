use Rattle.std.proofs.Common.{rules, ◌≡◌, ◌<◌, ℕ, sym, ◌∙◌, bit_and, get_or}
use Rattle.steady_flash.specs.Cells.{IsEight, blank}
use Rattle.steady_flash.specs.Shown.{shown}
use Rattle.steady_flash.proofs.Cells.{one_reading}
use Rattle.steady_flash.proofs.Session.{answered, programs_of, may_program_of, keeps_program, unchanged, both_blank, and_blank, left_as}
use Rattle.steady_flash.specs.Layout.{held_at}
use Rattle.steady_flash.specs.Sound.{IsOpen}
use Rattle.steady_flash.proofs.Cutting.{change_cut, err_from}
use Rattle.steady_flash.proofs.writing.program.Goals as goal

pub returns-then-eq-clause-outcome : goal.returns-then-eq-clause-outcome
returns-then-eq-clause-outcome g c settled =
    let was = one_reading _ _ _ (settled c.args.page c.args.slot c.requires.in_pages c.requires.in_page) c.read_slot-held.ensures in
    let same : c.both-after.result ≡ c.read_slot-held.result = search rules in
    let both : (k : ℕ) → k < 8 → get_or c.both-after.result k 0 ≡ bit_and (get_or (shown (g.F.MarkedFlash.slots c.args.flash.now) c.args.layout.now c.args.page c.args.slot) k 0) (get_or c.args.bytes k 0) = λ k l. rw (← was) (c.both-after.ensures k l) in
    (settled, programs_of c.args.layout.now c.args.layout.now (g.F.MarkedFlash.slots c.args.flash.now) (g.F.MarkedFlash.slots c.args.flash.now) c.args.page c.args.slot c.args.bytes c.both-after.result c.requires.in_pages c.requires.in_page settled (unchanged c.args.layout.now (g.F.MarkedFlash.slots c.args.flash.now) c.args.page c.args.slot c.both-after.result settled (same ∙ was)) both)

pub returns-then-ne-clause-outcome : goal.returns-then-ne-clause-outcome
returns-then-ne-clause-outcome g c settled =
    let was = one_reading _ _ _ (settled c.args.page c.args.slot c.requires.in_pages c.requires.in_page) c.read_slot-held.ensures in
    let both : (k : ℕ) → k < 8 → get_or c.both-after.result k 0 ≡ bit_and (get_or (shown (g.F.MarkedFlash.slots c.args.flash.now) c.args.layout.now c.args.page c.args.slot) k 0) (get_or c.args.bytes k 0) = λ k l. rw (← was) (c.both-after.ensures k l) in
    answered c.change.result _ _ _ _
    (λ _ x. (x.settled, programs_of c.args.layout.now _ _ _ c.args.page c.args.slot c.args.bytes c.both-after.result c.requires.in_pages c.requires.in_page settled x both))
    (λ why x. left_as why _ _ _ _ (λ k. (k.settled, keeps_program c.args.layout.now _ _ _ c.args.page c.args.slot c.args.bytes k)) (λ none. absurd none) x)
    (c.change.ensures.outcome settled)

pub returns-clause-outcome : goal.returns-clause-outcome
returns-clause-outcome g c settled =
    let was = one_reading _ _ _ (settled c.args.page c.args.slot c.requires.in_pages c.requires.in_page) c.read_slot-held.ensures in
    let free : c.read_slot-held.result ≡ blank = search rules in
    let eight : IsEight c.both-after.result = record { eight = search rules; each = search rules } in
    let bytes : IsEight c.args.bytes = record { eight = search rules; each = search rules } in
    let other : (c.both-after.result ≡ c.read_slot-held.result → ⊥) = search rules in
    let e : shown (g.F.MarkedFlash.slots c.args.flash.now) c.args.layout.now c.args.page c.args.slot ≡ blank = sym was ∙ free in
    let both : (k : ℕ) → k < 8 → get_or c.both-after.result k 0 ≡ bit_and (get_or c.read_slot-held.result k 0) (get_or c.args.bytes k 0) = c.both-after.ensures in
    answered c.fill.result _ _ _ _
    (λ _ x. (x.settled, programs_of c.args.layout.now _ _ _ c.args.page c.args.slot c.args.bytes c.args.bytes c.requires.in_pages c.requires.in_page settled x (λ k l. rw e (and_blank c.args.bytes k bytes l))))
    (λ why x. left_as why _ _ _ _
    (λ t. (t.changed.settled, may_program_of c.args.layout.now _ _ _ c.args.page c.args.slot c.args.bytes t.now c.requires.in_pages c.requires.in_page settled t.changed (rw e t.torn)))
    (λ d. (d, e))
    x)
    (c.fill.ensures.outcome settled e (λ f. other (both_blank _ _ _ eight both free f)))

pub returns-then-ne-clause-cut : goal.returns-then-ne-clause-cut
returns-then-ne-clause-cut g c k settled =
    let l = c.args.layout.now in
    let old = g.F.MarkedFlash.slots c.args.flash.now in
    let was = one_reading _ _ _ (settled c.args.page c.args.slot c.requires.in_pages c.requires.in_page) c.read_slot-held.ensures in
    let both : (k : ℕ) → k < 8 → get_or c.both-after.result k 0 ≡ bit_and (get_or (shown old l c.args.page c.args.slot) k 0) (get_or c.args.bytes k 0) = λ k l. rw (← was) (c.both-after.ensures k l) in
    err_from c.change.result _ _ (λ why x apart. (let y = x apart in change_cut _ (g.F.MarkedFlash.marks c.change.new.flash) old (g.F.MarkedFlash.slots c.change.new.flash) l c.args.page (IsOpen (g.F.MarkedFlash.marks c.change.new.flash) (held_at l.held c.args.page).page) (record { slot = c.args.slot; bytes = c.both-after.result }) c.args.bytes y.0 c.requires.in_pages c.requires.in_page settled y.1 y.2 both))
    (c.change.ensures.cut k)

pub returns-clause-cut : goal.returns-clause-cut
returns-clause-cut g c k settled =
    let was = one_reading _ _ _ (settled c.args.page c.args.slot c.requires.in_pages c.requires.in_page) c.read_slot-held.ensures in
    let free : c.read_slot-held.result ≡ blank = search rules in
    let eight : IsEight c.both-after.result = record { eight = search rules; each = search rules } in
    let other : (c.both-after.result ≡ c.read_slot-held.result → ⊥) = search rules in
    let e : shown (g.F.MarkedFlash.slots c.args.flash.now) c.args.layout.now c.args.page c.args.slot ≡ blank = sym was ∙ free in
    let both : (k : ℕ) → k < 8 → get_or c.both-after.result k 0 ≡ bit_and (get_or c.read_slot-held.result k 0) (get_or c.args.bytes k 0) = c.both-after.ensures in
    c.fill.ensures.cut k settled e (λ f. other (both_blank _ _ _ eight both free f))
