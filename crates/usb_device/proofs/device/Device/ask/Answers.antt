use Rattle.std.proofs.Common.{List, ℕ, [], ◌∷◌, ◌≡◌, Option, Some, None, refl, sym, ap, subst, inr, ◌∙◌}
use Rattle.usb_device.specs.declared.report_buffers.Course.TheVariants.{Rests, Begins}
use Rattle.usb_device.specs.Calls.{Polled}
use Rattle.usb_device.specs.Events.{PollAsked}
use Rattle.usb_device.specs.Steps.{polled_of}
use Rattle.usb_device.specs.Through.{calls_of}
use Rattle.usb_device.specs.representation.Link1.{Link1}
use Rattle.usb_device.proofs.Reporting.{polled_none}
use Rattle.usb_device.proofs.device.Device.ask.Goals as goal

pub returns-in-None-clause-refines : goal.returns-in-None-clause-refines
returns-in-None-clause-refines g c = λ lent past h.
    let answer = c.poll.result in
    let b = g.B.Buffers.bus c.args.self.now.buffers in
    let none : polled_of answer ≡ None = sym (rw c.in-None.is at c.report_of.ensures) in
    let L : Option (List ℕ) → Type 0 = λ x. Link1 c.args.self.now.reports b (Polled x ∷ calls_of past) in (
      PollAsked answer ∷ past,
      (
        c.poll.ensures.refines lent past h.0,
        c.poll.ensures.session lent past h.0 h.1,
        subst L (sym none) (polled_none c.args.self.now.reports b (calls_of past) (c.is_free.ensures.free c.if-is_free.true) h.2),
        h.3,
        h.4,
      ),
      λ r. (calls_of past, ap (λ x. Polled x ∷ calls_of past) none),
      inr (answer, refl),
    )

pub returns-in-None-clause-asked : goal.returns-in-None-clause-asked
returns-in-None-clause-asked g c = λ lent past h.
    let answer = c.poll.result in
    let b = g.B.Buffers.bus c.args.self.now.buffers in
    let none : polled_of answer ≡ None = sym (rw c.in-None.is at c.report_of.ensures) in
    let L : Option (List ℕ) → Type 0 = λ x. Link1 c.args.self.now.reports b (Polled x ∷ calls_of past) in (
      PollAsked answer ∷ [],
      (
        c.poll.ensures.refines lent past h.0,
        c.poll.ensures.session lent past h.0 h.1,
        subst L (sym none) (polled_none c.args.self.now.reports b (calls_of past) (c.is_free.ensures.free c.if-is_free.true) h.2),
        h.3,
        h.4,
      ),
      tt,
      λ r. none,
    )

pub returns-in-Some-clause-asked : goal.returns-in-Some-clause-asked
returns-in-Some-clause-asked g c = λ lent past h.
    let answer = c.poll.result in
    let b = g.B.Buffers.bus c.args.self.now.buffers in
    let some : polled_of answer ≡ Some c.in-Some.report.items = sym (rw c.in-Some.is at c.report_of.ensures) in
    let L : Option (List ℕ) → Type 0 = λ x. Link1 c.begin.new.self b (Polled x ∷ calls_of past) in (
      PollAsked answer ∷ [],
      (
        c.poll.ensures.refines lent past h.0,
        c.poll.ensures.session lent past h.0 h.1,
        subst L (sym some) (c.begin.ensures.linked b (calls_of past) (c.is_free.ensures.free c.if-is_free.true) h.2),
        h.3,
        c.begin.ensures.waits ∙ h.4,
      ),
      tt,
      λ r. absurd (let x : Begins ≡ Rests = sym c.begin.ensures.begins ∙ r in cc),
    )

pub returns-else-is_free-clause-asked : goal.returns-else-is_free-clause-asked
returns-else-is_free-clause-asked g c = λ lent past h. ([], h, tt, λ r. absurd (c.is_free.ensures.busy c.if-is_free.false r))
