use Rattle.std.proofs.Common.{◌≡◌, ◌==◌, ℕ, true, false, [], ◌++◌, refl, sym, ap, subst, inl, inr, ◌∙◌}
use Rattle.usb_device.specs.Bus1.{Bus1, room_of}
use Rattle.usb_device.specs.Through.{calls_of}
use Rattle.usb_device.specs.representation.Link1.{ReportState, Link1, NothingWithheld, may_send, may_not}
use Rattle.usb_device.specs.representation.Layered.{is_ready, to_tell}
use Rattle.usb_device.proofs.Reporting.{goes1}
use Rattle.usb_device.proofs.Handing.{goes_held, rests_none, may_by, may_unknown, may_unready}
use Rattle.usb_device.proofs.Layering.{reported_in_step, marks_in_step, looked, through_marks}
use Rattle.usb_device.proofs.Pausing.{goes_some}
use Rattle.usb_device.proofs.device.Device.serve_reports.Goals.{else-is_ready-via-then-is_ready+else-is_known, else-is_ready-via-else-is_ready}
use Rattle.usb_device.proofs.device.Device.serve_reports.Goals as goal

pub returns-then-is_known-clause-refines : goal.returns-then-is_known-clause-refines
returns-then-is_known-clause-refines g c = λ lent past h.
    let old = g.B.Buffers.bus c.args.self.now.buffers in
    let seen = g.B.Buffers.bus c.taken_1-count.new.self in
    let new = g.B.Buffers.bus c.fill.new.buffers in
    let t = c.taken_1-count.ensures in
    let P : Bus1 → Type 0 = λ x. Link1 c.taken.new.self x (calls_of past) in
    let linked = subst P (sym t.4) (c.taken.ensures.linked t.1 (calls_of past) (sym t.3) (goes1 t.0 c.args.self.now.reports old t.1 (calls_of past) t.2 h.2)) in
    let a = c.ask.ensures.refines lent past (h.0, h.1, linked, reported_in_step t.0 (to_tell lent past) old t.1 seen t.2 t.4 h.3, c.taken.ensures.waits ∙ h.4) in
    let end = c.fill.ensures.linked (calls_of a.0) a.1.2 in
    let may = may_send (is_ready c.args.self.now.layer.endpoint) c.args.self.now.reports.left in
    let known : (c.args.self.now.reports.left == 0) ≡ true = ap (λ (x : ℕ). x == 0) (sym c.taken.ensures.waits) ∙ sym c.is_known.ensures ∙ c.if-is_known.true in
    let now = may_by (is_ready c.args.self.now.layer.endpoint) c.args.self.now.reports.left (sym c.is_ready.ensures ∙ c.if-is_ready.true) known in
    let nothing : NothingWithheld may (room_of g.B.Buffers.two) c.fill.new.self new (calls_of a.0) =
    elim c.fill.ensures.held [
      | inl x ↦ goes_held may g.B.Buffers.two c.fill.new.self new (calls_of a.0) x.0 end x.1
      | inr x ↦
          (let n = a.2 x.0 in
          rests_none may (room_of g.B.Buffers.two) c.fill.new.self new n.0 (calls_of a.0) (ap (λ (y : ReportState). y.course) x.2 ∙ x.0) end n.1)
    ]
    in (
      a.0,
      (a.1.0, a.1.1, end, (let f = c.fill.ensures.fills (calls_of a.0) a.1.2 in marks_in_step (to_tell lent a.0) (g.B.Buffers.bus c.ask.new.self.buffers) new (through_marks f.0 _ new f.1) a.1.3), c.fill.ensures.waits ∙ a.1.4),
      nothing,
      a.3,
      λ n. absurd (let x : true ≡ false = sym now ∙ n in cc),
    )

pub returns-else-is_ready-clause-refines : goal.returns-else-is_ready-clause-refines
returns-else-is_ready-clause-refines g c = λ lent past h.
    let old = g.B.Buffers.bus c.args.self.now.buffers in
    let seen = g.B.Buffers.bus c.taken_1-count.new.self in
    let t = c.taken_1-count.ensures in
    let P : Bus1 → Type 0 = λ x. Link1 c.taken.new.self x (calls_of past) in
    let linked = subst P (sym t.4) (c.taken.ensures.linked t.1 (calls_of past) (sym t.3) (goes1 t.0 c.args.self.now.reports old t.1 (calls_of past) t.2 h.2)) in
    let may : may_send (is_ready c.args.self.now.layer.endpoint) c.args.self.now.reports.left ≡ false =
    elim c.else-is_ready.branch [
      | else-is_ready-via-then-is_ready+else-is_known v ↦
          may_unknown (is_ready c.args.self.now.layer.endpoint) c.args.self.now.reports.left
          (ap (λ (x : ℕ). x == 0) (sym c.taken.ensures.waits) ∙ sym v.is_known.ensures ∙ v.if-is_known.false)
      | else-is_ready-via-else-is_ready v ↦ may_unready (is_ready c.args.self.now.layer.endpoint) c.args.self.now.reports.left (sym c.is_ready.ensures ∙ v.if-is_ready.false)
    ]
    in (
      past,
      (h.0, h.1, linked, reported_in_step t.0 (to_tell lent past) old t.1 seen t.2 t.4 h.3, c.taken.ensures.waits ∙ h.4),
      may_not may,
      inl refl,
      λ n. (refl, (t.0, t.1, t.2, t.4)),
    )

pub returns-then-is_known-clause-asked : goal.returns-then-is_known-clause-asked
returns-then-is_known-clause-asked g c = λ lent past h.
    let old = g.B.Buffers.bus c.args.self.now.buffers in
    let seen = g.B.Buffers.bus c.taken_1-count.new.self in
    let new = g.B.Buffers.bus c.fill.new.buffers in
    let t = c.taken_1-count.ensures in
    let P : Bus1 → Type 0 = λ x. Link1 c.taken.new.self x (calls_of past) in
    let linked = subst P (sym t.4) (c.taken.ensures.linked t.1 (calls_of past) (sym t.3) (goes1 t.0 c.args.self.now.reports old t.1 (calls_of past) t.2 h.2)) in
    let a = c.ask.ensures.asked lent past (h.0, h.1, linked, reported_in_step t.0 (to_tell lent past) old t.1 seen t.2 t.4 h.3, c.taken.ensures.waits ∙ h.4) in
    let all = a.0 ++ past in
    let end = c.fill.ensures.linked (calls_of all) a.1.2 in (
      a.0,
      (a.1.0, a.1.1, end, (let f = c.fill.ensures.fills (calls_of all) a.1.2 in marks_in_step (to_tell lent all) (g.B.Buffers.bus c.ask.new.self.buffers) new (through_marks f.0 _ new f.1) a.1.3), c.fill.ensures.waits ∙ a.1.4),
      a.2,
      λ m r. elim c.fill.ensures.held [ inl x ↦ inl (goes_some g.B.Buffers.two c.fill.new.self new (calls_of all) x.0 end x.1 r) | inr x ↦ inr (a.3 x.0) ],
    )

pub returns-else-is_ready-clause-asked : goal.returns-else-is_ready-clause-asked
returns-else-is_ready-clause-asked g c = λ lent past h.
    let old = g.B.Buffers.bus c.args.self.now.buffers in
    let seen = g.B.Buffers.bus c.taken_1-count.new.self in
    let t = c.taken_1-count.ensures in
    let P : Bus1 → Type 0 = λ x. Link1 c.taken.new.self x (calls_of past) in
    let linked = subst P (sym t.4) (c.taken.ensures.linked t.1 (calls_of past) (sym t.3) (goes1 t.0 c.args.self.now.reports old t.1 (calls_of past) t.2 h.2)) in
    let may : may_send (is_ready c.args.self.now.layer.endpoint) c.args.self.now.reports.left ≡ false =
    elim c.else-is_ready.branch [
      | else-is_ready-via-then-is_ready+else-is_known v ↦
          may_unknown (is_ready c.args.self.now.layer.endpoint) c.args.self.now.reports.left
          (ap (λ (x : ℕ). x == 0) (sym c.taken.ensures.waits) ∙ sym v.is_known.ensures ∙ v.if-is_known.false)
      | else-is_ready-via-else-is_ready v ↦ may_unready (is_ready c.args.self.now.layer.endpoint) c.args.self.now.reports.left (sym c.is_ready.ensures ∙ v.if-is_ready.false)
    ]
    in ([], (h.0, h.1, linked, reported_in_step t.0 (to_tell lent past) old t.1 seen t.2 t.4 h.3, c.taken.ensures.waits ∙ h.4), tt, λ m r. absurd (let x : true ≡ false = sym m ∙ may in cc))

pub returns-then-is_known-clause-looks : goal.returns-then-is_known-clause-looks
returns-then-is_known-clause-looks g c = λ lent past h.
    let b = g.B.Buffers.bus in
    let old = b c.args.self.now.buffers in
    let seen = b c.taken_1-count.new.self in
    let t = c.taken_1-count.ensures in
    let P : Bus1 → Type 0 = λ x. Link1 c.taken.new.self x (calls_of past) in
    let linked = subst P (sym t.4) (c.taken.ensures.linked t.1 (calls_of past) (sym t.3) (goes1 t.0 c.args.self.now.reports old t.1 (calls_of past) t.2 h.2)) in
    let a = c.ask.ensures.asked lent past (h.0, h.1, linked, reported_in_step t.0 (to_tell lent past) old t.1 seen t.2 t.4 h.3, c.taken.ensures.waits ∙ h.4) in
    let f = c.fill.ensures.fills (calls_of (a.0 ++ past)) a.1.2 in
    looked t.0 old t.1 (b c.ask.new.self.buffers) (b c.fill.new.buffers) f.0 t.2 (ap b c.ask.ensures.buffers ∙ t.4) f.1

pub returns-else-is_ready-clause-looks : goal.returns-else-is_ready-clause-looks
returns-else-is_ready-clause-looks g c = λ lent past h.
    let t = c.taken_1-count.ensures in
    looked t.0 (g.B.Buffers.bus c.args.self.now.buffers) t.1 (g.B.Buffers.bus c.taken_1-count.new.self) _ [] t.2 t.4 refl
