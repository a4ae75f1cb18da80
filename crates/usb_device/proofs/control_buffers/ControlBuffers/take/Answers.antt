use Rattle.std.proofs.Common.{List, ◌∷◌, Some, None, true, false, sym, ap, ◌∙◌, ◌≡◌}
use Rattle.usb_device.specs.Calls.{EpCall, SetUp, BusReset}
use Rattle.usb_device.specs.Bus.{Met, looked}
use Rattle.usb_device.specs.representation.Link.{transfer_view}
use Rattle.usb_device.proofs.Moving.{begins, behind_reset, stood, kept_behind, given_behind, resets, not_pending}
use Rattle.usb_device.proofs.Resting.{begun_ready}
use Rattle.usb_device.proofs.Looking.{set_up_asks, reset_asks, still_asks}
use Rattle.usb_device.proofs.control_buffers.ControlBuffers.take.Goals as goal

pub returns-in-Some-clause-linked : goal.returns-in-Some-clause-linked
returns-in-Some-clause-linked g c = λ b calls s h e r.
    let setup = c.in-Some.setup in
    let n : b.met.setup ≡ Some setup = sym (ap (λ (m : Met). m.setup) e) ∙ c.in-Some.is in
    let t = c.first_transfer-self-inside.result in
    let f = c.first_transfer-self-inside.ensures in
    let q = ap (λ (m : Met). m.reset) e in
    let before = behind_reset b.met.reset calls in
    let S : List EpCall → Type 0 = λ x. g.E.Endpoints.refines x c.hand_on.new.device in (
      SetUp setup ∷ before,
      stood S b.met.reset setup calls (λ y. c.hand_on.ensures.behind_a_reset calls (q ∙ y) s) (λ n. c.hand_on.ensures.alone calls (q ∙ n) s),
      begins c.args.self.now (transfer_view t) b calls before setup h n (kept_behind b.met.reset c.args.self.now b calls h) (given_behind b.met.reset c.args.self.now b calls h) f.write f.read f.no_data,
      begun_ready (transfer_view t) (looked b) f.begun,
      set_up_asks b.met setup calls n,
    )

pub returns-then-met-clause-linked : goal.returns-then-met-clause-linked
returns-then-met-clause-linked g c = λ b calls s h e r.
    let n : b.met.setup ≡ None = sym (ap (λ (m : Met). m.setup) e) ∙ c.in-None.is in
    let q : b.met.reset ≡ true = sym (ap (λ (m : Met). m.reset) e) ∙ c.if-met.true in
    (BusReset ∷ calls, c.bus_reset.ensures.refines calls s, resets c.args.self.now b calls h q n, tt, reset_asks b.met calls n q)

pub returns-else-met-clause-linked : goal.returns-else-met-clause-linked
returns-else-met-clause-linked g c = λ b calls s h e r.
    let n : b.met.setup ≡ None = sym (ap (λ (m : Met). m.setup) e) ∙ c.in-None.is in
    let q : b.met.reset ≡ false = sym (ap (λ (m : Met). m.reset) e) ∙ c.if-met.false in
    let f = c.follow.ensures.linked b calls s h q n (sym (ap (λ (m : Met). m.out) e)) (sym (ap (λ (m : Met). m.taken) e)) (r (not_pending b.met q n)) in
    (f.0, f.1, f.2, f.3, still_asks b.met calls f.0 n q f.4)
