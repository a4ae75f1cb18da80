use Rattle.std.proofs.Common.{◌≡◌, ℕ, ◌==◌, true, false, [], ◌++◌, inl, inr, refl, sym, ap, subst, ◌∙◌}
use Rattle.usb_device.specs.Bus1.{room_of, no_polls}
use Rattle.usb_device.specs.Through.{calls_of}
use Rattle.usb_device.specs.Transfers.{TransferState, NothingWithheld0, is_done}
use Rattle.usb_device.specs.declared.answer.Endpoint1.{Endpoint1}
use Rattle.usb_device.specs.representation.Link.{Link}
use Rattle.usb_device.specs.representation.Link1.{NothingWithheld, may_send}
use Rattle.usb_device.specs.representation.Layered.{is_ready}
use Rattle.usb_device.proofs.Layering.{polled_once, marks_known, bides_same, bides_then, looked_marks, looks_then}
use Rattle.usb_device.proofs.Stating.{standing}
use Rattle.usb_device.specs.Steps.{LayerState}
use Rattle.usb_device.proofs.Linked.{goes}
use Rattle.usb_device.proofs.Resting.{rest_goes}
use Rattle.usb_device.specs.representation.Link.{LooksAs}
use Rattle.usb_device.specs.Pauses.{seen_if}
use Rattle.usb_device.proofs.Addressing.{addressed}
use Rattle.usb_device.proofs.Answering.{hears_end}
use Rattle.usb_device.proofs.Looking.{grows_goes, looks_as}
use Rattle.usb_device.proofs.Handing.{may_by}
use Rattle.usb_device.proofs.Pausing.{polls_renewed, seen_renewed, seen_calls}
use Rattle.usb_device.proofs.usb_device.UsbDevice.serve.Goals as goal

pub returns-clause-runs : goal.returns-clause-runs
returns-clause-runs g c = λ calls lent past h.
    let a = c.serve.ensures.linked calls (lent, past, h.2, h.3) h.0 h.1 in
    let bus = g.C.Controller.bus c.tell.new.controller in
    let b = g.B.Buffers.bus c.serve_reports.new.self.buffers in
    let settled = c.settle.ensures.refines a.1.0 a.1.1 a.1.2 in
    let seen = seen_if (is_done c.settle.new.self.control) a.1.1 in
    let r = c.serve_reports.ensures.refines a.1.0 seen settled in
    let T : TransferState → Type 0 = λ x. Link x (g.C.Controller.bus c.serve.new.controller) a.0 in
    let N : TransferState → Type 0 = λ x. NothingWithheld0 x (g.C.Controller.bus c.serve.new.controller) in
    let tell = c.tell.ensures.met in
    let old = g.C.Controller.bus c.serve.new.controller in
    let A : TransferState → Type 0 = λ x. LooksAs x (g.C.Controller.bus c.args.controller.now) old calls a.0 in
    let linked = goes tell.0 c.settle.new.self.control old bus a.0 tell.1 (subst T (sym c.settle.ensures.same) a.2) in
    let rests = rest_goes tell.0 c.settle.new.self.control old bus tell.1 (subst N (sym c.settle.ensures.same) a.3) in
    let E : Endpoint1 → Type 0 = λ x. NothingWithheld (may_send (is_ready x) c.settle.new.self.device.reports.left) (room_of g.B.Buffers.two) c.serve_reports.new.self.reports b (calls_of r.0) in
    let L : ℕ → Type 0 =
    λ x. NothingWithheld (may_send (is_ready c.serve_reports.new.self.layer.endpoint) x) (room_of g.B.Buffers.two) c.serve_reports.new.self.reports b (calls_of r.0)
    in (
      a.0,
      a.1.0,
      r.0,
      (linked, rests, r.1, polled_once seen r.0 r.3 ∙ (ap (λ x. no_polls x) (seen_calls (is_done c.settle.new.self.control) a.1.1) ∙ a.1.3)),
      subst L (sym c.serve_reports.ensures.waits) (subst E (sym c.serve_reports.ensures.same) r.2),
      addressed (is_done c.settle.new.self.control) c.serve_reports.new.self.layer.due old bus calls a.0 (g.C.Controller.address_of c.args.controller.now) (g.C.Controller.address_of c.serve.new.controller) (g.C.Controller.address_of c.tell.new.controller) c.tell.ensures.reported a.5,
      a.4,
      looks_as c.settle.new.self.control (g.C.Controller.bus c.args.controller.now) old bus calls a.0 (subst A (sym c.settle.ensures.same) a.6) (grows_goes tell.0 old bus tell.1) linked rests,
      hears_end c.settle.new.self.control bus a.0 linked rests,
    )

pub returns-clause-kept : goal.returns-clause-kept
returns-clause-kept g c = λ from k.
    let served = (c.serve.ensures.kept c.args.self.now.device (λ base x. x, λ lent past h. ([], h, tt, λ u. u, inr (bides_same _ _ refl)), refl)).0 from k in
    let settled = subst (λ x. g.E.Endpoints.keeps from x) (sym c.settle.ensures.behind) served in
    c.serve_reports.ensures.kept from settled

pub returns-clause-size : goal.returns-clause-size
returns-clause-size g c =
    let served = (c.serve.ensures.kept c.args.self.now.device (λ base x. x, λ lent past h. ([], h, tt, λ u. u, inr (bides_same _ _ refl)), refl)).2 in
    c.serve_reports.ensures.size ∙ (c.settle.ensures.size ∙ served)

pub returns-clause-goes_on : goal.returns-clause-goes_on
returns-clause-goes_on g c = λ lent past h.
    let y = (c.serve.ensures.kept c.args.self.now.device (λ base x. x, λ lent past h. ([], h, tt, λ u. u, inr (bides_same _ _ refl)), refl)).1 lent past h in
    let done = is_done c.settle.new.self.control in
    let seen = seen_if done (y.0 ++ past) in
    let settled = c.settle.ensures.refines lent (y.0 ++ past) y.1 in
    let a = c.serve_reports.ensures.asked lent seen settled in
    let looks = c.serve_reports.ensures.looks lent seen settled in
    let d = c.settle.new.self.device in
    let b = g.B.Buffers.bus c.serve_reports.new.self.buffers in (
      y.0,
      a.0,
      a.1,
      y.2,
      a.2,
      λ e z r. (let ready = sym c.serve_reports.ensures.same ∙ (ap (λ (s : LayerState). s.endpoint) a.1.0.state ∙ ((standing lent (a.0 ++ seen) a.1.0.answered).endpoint ∙ e)) in
          let left = sym c.serve_reports.ensures.waits ∙ (a.1.4 ∙ z) in
          a.3 (may_by (is_ready d.layer.endpoint) d.reports.left (ap is_ready ready) (ap (λ x. x == 0) left)) r),
      λ n r. elim y.4 [
        | inl e ↦ absurd (let x : true ≡ false = sym e ∙ n in cc)
        | inr k ↦ looks_then (g.B.Buffers.bus c.args.self.now.device.buffers) (g.B.Buffers.bus d.buffers) b (bides_then _ _ (g.B.Buffers.bus d.buffers) k c.settle.ensures.bides) looks r
      ],
      λ u e q r. (let set = sym (seen_renewed done lent (y.0 ++ past)) ∙ (sym (polls_renewed lent a.0 seen a.2) ∙ q) in
          let renewed = ap (λ (s : LayerState). s.renewed) y.1.0.state ∙ ((standing lent (y.0 ++ past) y.1.0.answered).renewed ∙ set) in
          marks_known (g.B.Buffers.bus d.buffers) b (looked_marks (g.B.Buffers.bus d.buffers) b looks) (c.settle.ensures.agreed e renewed (y.3 u set)) r),
    )
