use Rattle.std.proofs.Common.{List, refl, sym, ap, subst, ◌∙◌}
use Rattle.usb_device.specs.Calls.{EpCall}
use Rattle.usb_device.specs.representation.Link1.{ReportState, InStep}
use Rattle.usb_device.specs.Steps.{LayerState}
use Rattle.usb_device.specs.Through.{calls_of}
use Rattle.usb_device.specs.representation.Layered.{host_began_if, to_tell}
use Rattle.usb_device.proofs.Carrying.{true_false}
use Rattle.usb_device.proofs.Stating.{standing}
use Rattle.usb_device.proofs.Layering.{bides_same, seen_refines, seen_session}
use Rattle.usb_device.proofs.device.Device.is_done.Goals as goal

pub returns-then-has_renewed-clause-refines : goal.returns-then-has_renewed-clause-refines
returns-then-has_renewed-clause-refines g c = λ lent past h.
    let S : List EpCall → Type 0 = λ x. g.E.Endpoints.refines x c.args.self.now.behind in (
      seen_refines lent past c.args.self.now.layer h.0,
      subst S (sym (seen_session lent past)) h.1,
      c.agree.ensures.linked (calls_of past) (c.release.ensures.linked _ (calls_of past) h.2),
      subst (λ x. InStep (host_began_if x (to_tell lent past)) (g.B.Buffers.bus c.agree.new.buffers))
          (sym c.if-has_renewed.true ∙ c.has_renewed.ensures ∙ ap (λ (s : LayerState). s.renewed) h.0.state ∙ (standing lent past h.0.answered).renewed)
          (c.agree.ensures.reported (to_tell lent past) h.3),
      c.agree.ensures.waits ∙ ap (λ (r : ReportState). r.left) c.release.ensures.same,
    )

pub returns-else-has_renewed-clause-refines : goal.returns-else-has_renewed-clause-refines
returns-else-has_renewed-clause-refines g c = λ lent past h.
    let S : List EpCall → Type 0 = λ x. g.E.Endpoints.refines x c.args.self.now.behind in (
      seen_refines lent past c.args.self.now.layer h.0,
      subst S (sym (seen_session lent past)) h.1,
      c.release.ensures.linked _ (calls_of past) h.2,
      subst (λ x. InStep (host_began_if x (to_tell lent past)) (g.B.Buffers.bus c.args.self.now.buffers))
          (sym c.if-has_renewed.false ∙ c.has_renewed.ensures ∙ ap (λ (s : LayerState). s.renewed) h.0.state ∙ (standing lent past h.0.answered).renewed)
          h.3,
      ap (λ (r : ReportState). r.left) c.release.ensures.same,
    )

pub returns-then-has_renewed-clause-others : goal.returns-then-has_renewed-clause-others
returns-then-has_renewed-clause-others g c = λ lent past h n.
    let r = sym c.if-has_renewed.true ∙ c.has_renewed.ensures in
    absurd (true_false (r ∙ ap (λ (s : LayerState). s.renewed) h.state ∙ (standing lent past h.answered).renewed ∙ n))

pub returns-else-has_renewed-clause-bides : goal.returns-else-has_renewed-clause-bides
returns-else-has_renewed-clause-bides g c = bides_same _ _ refl
