use Rattle.std.proofs.Common.{◌≡◌, ◌∷◌, ◌&&◌, true, false, refl, sym, subst, ap, ◌∙◌}
use Rattle.usb_device.specs.Bus1.{Bus1, Changed, changed_if, sent_of}
use Rattle.usb_device.specs.Calls.{In}
use Rattle.usb_device.specs.States.{is_empty_packet}
use Rattle.usb_device.specs.representation.Link1.{ReportState, Link1}
use Rattle.usb_device.proofs.Reporting.{goes1, left_same, same_reports}
use Rattle.usb_device.proofs.Layering.{reported_keeps, keeps_then}
use Rattle.usb_device.proofs.report_buffers.ReportBuffers.answered.Goals as goal

pub returns-then-is_change-clause-linked : goal.returns-then-is_change-clause-linked
returns-then-is_change-clause-linked g c = λ calls h.
    let t = c.taken_1-count.ensures in
    let s = c.args.self.now in
    let answer = c.args.answer.now in
    let old = g.B.Buffers.bus c.args.buffers.now in
    let P : Bus1 → Type 0 = λ x. Link1 c.taken.new.self x calls in
    let linked = subst P (sym t.4) (c.taken.ensures.linked t.1 calls (sym t.3) (goes1 t.0 s old t.1 calls t.2 h)) in
    let yes : (is_empty_packet answer && s.protocol) ≡ true = sym c.is_change.ensures ∙ c.if-is_change.true in
    let sent : sent_of (In answer ∷ calls) ≡ Changed ∷ sent_of calls =
    ap (λ x. changed_if x (sent_of calls)) (ap (λ x. is_empty_packet answer && x) (sym h.asked) ∙ yes) in
    let W : ReportState → Type 0 = λ x. Link1 x (g.B.Buffers.bus c.change.new.buffers) (In answer ∷ calls) in
    subst W (sym c.wait.ensures) (left_same c.change.new.self _ (g.B.Buffers.bus c.change.new.buffers) (In answer ∷ calls) (c.change.ensures.linked calls (In answer ∷ calls) sent refl linked))

pub returns-then-is_change-clause-reported : goal.returns-then-is_change-clause-reported
returns-then-is_change-clause-reported g c =
    let t = c.taken_1-count.ensures in
    let b = g.B.Buffers.bus in
    keeps_then (b c.args.buffers.now) (b c.taken_1-count.new.self) (b c.change.new.buffers)
    (reported_keeps t.0 (b c.args.buffers.now) t.1 (b c.taken_1-count.new.self) t.2 t.4) c.change.ensures.reported

pub returns-else-is_change-clause-linked : goal.returns-else-is_change-clause-linked
returns-else-is_change-clause-linked g c = λ calls h.
    let s = c.args.self.now in
    let answer = c.args.answer.now in
    let no : (is_empty_packet answer && s.protocol) ≡ false = sym c.is_change.ensures ∙ c.if-is_change.false in
    let sent : sent_of (In answer ∷ calls) ≡ sent_of calls =
    ap (λ x. changed_if x (sent_of calls)) (ap (λ x. is_empty_packet answer && x) (sym h.asked) ∙ no) in
    same_reports s (g.B.Buffers.bus c.args.buffers.now) calls (In answer ∷ calls) h sent refl
