use Rattle.std.proofs.Common.{◌∷◌, ◌++◌, ◌≡◌, Option, ◌∙◌, ap, subst, inl, inr}
use Rattle.usb_device.specs.declared.answer.Change.{Change}
use Rattle.usb_device.specs.Calls.{In}
use Rattle.usb_device.specs.Events.{InAsked}
use Rattle.usb_device.specs.Steps.{LayerState, change_of, state_of}
use Rattle.usb_device.specs.Through.{calls_of}
use Rattle.usb_device.specs.representation.Link1.{InStep}
use Rattle.usb_device.specs.representation.Layered.{endpoint_set, with_state, to_tell}
use Rattle.usb_device.proofs.Pausing.{unsent_in, paused_in}
use Rattle.usb_device.proofs.Layering.{states_in_step, bides_then, keeps_bides}
use Rattle.usb_device.proofs.device.DeviceEndpoints.in_packet.Goals as goal

pub returns-clause-refines : goal.returns-clause-refines
returns-clause-refines g c = λ calls p.
    let answer = c.in_packet-answer.result.0 in
    let change = c.in_packet-answer.result.1 in
    let e = c.in_packet-answer.ensures in
    let b = g.B.Buffers.bus c.answered.new.buffers in
    let states = with_state (endpoint_set (change_of (state_of p.0 p.1).stage)) (to_tell p.0 p.1) in
    let same : change ≡ change_of (state_of p.0 p.1).stage = e.change ∙ ap (λ (s : LayerState). change_of s.stage) p.2.0.state in
    let S : Option Change → Type 0 = λ x. InStep (with_state (endpoint_set x) (to_tell p.0 p.1)) (g.B.Buffers.bus c.follow.new.buffers) in (
      p.0,
      InAsked answer ∷ p.1,
      (
        e.refines p.0 p.1 p.2.0,
        e.session p.0 p.1 p.2.0 p.2.1,
        c.answered.ensures.linked (calls_of p.1) (c.follow.ensures.linked (calls_of p.1) p.2.2),
        states_in_step states (g.B.Buffers.bus c.follow.new.buffers) b c.answered.ensures.reported (subst S same (c.follow.ensures.reported (to_tell p.0 p.1) p.2.3)),
        paused_in p.0 p.1 answer change c.follow.new.reports.protocol c.args.self.now.reports.left c.follow.new.reports.left c.answered.new.self.left (e.refines p.0 p.1 p.2.0).answered same (c.follow.ensures.linked (calls_of p.1) p.2.2).asked p.2.4 c.follow.ensures.waits c.answered.ensures.waits,
      ),
      ap (λ x. In answer ∷ x) p.3,
    )

pub returns-clause-kept : goal.returns-clause-kept
returns-clause-kept g c = λ from k.
    let answer = c.in_packet-answer.result.0 in
    let change = c.in_packet-answer.result.1 in
    let e = c.in_packet-answer.ensures in
    let b = g.B.Buffers.bus c.answered.new.buffers in (
      λ base x. e.kept base (k.0 base x),
      λ lent past h. (let y = k.1 lent past h in
          let all = y.0 ++ past in
          let stage = (state_of lent all).stage in
          let states = with_state (endpoint_set (change_of stage)) (to_tell lent all) in
          let next = e.refines lent all y.1.0 in
          let same : change ≡ change_of stage = e.change ∙ ap (λ (s : LayerState). change_of s.stage) y.1.0.state in
          let S : Option Change → Type 0 = λ x. InStep (with_state (endpoint_set x) (to_tell lent all)) (g.B.Buffers.bus c.follow.new.buffers) in (
            InAsked answer ∷ y.0,
            (
              next,
              e.session lent all y.1.0 y.1.1,
              c.answered.ensures.linked (calls_of all) (c.follow.ensures.linked (calls_of all) y.1.2),
              states_in_step states (g.B.Buffers.bus c.follow.new.buffers) b c.answered.ensures.reported (subst S same (c.follow.ensures.reported (to_tell lent all) y.1.3)),
              paused_in lent all answer change c.follow.new.reports.protocol c.args.self.now.reports.left c.follow.new.reports.left c.answered.new.self.left next.answered same (c.follow.ensures.linked (calls_of all) y.1.2).asked y.1.4 c.follow.ensures.waits c.answered.ensures.waits,
            ),
            y.2,
            λ u. unsent_in lent all answer change (g.B.Buffers.bus c.args.self.now.buffers) (g.B.Buffers.bus c.follow.new.buffers) b next.answered same
                (λ n. ap g.B.Buffers.bus (c.follow.ensures.same n)) c.follow.ensures.opened c.answered.ensures.reported (y.3 u),
            elim y.4 [
              | inl r ↦ inl r
              | inr k ↦ inr (bides_then _ _ b k (bides_then _ (g.B.Buffers.bus c.follow.new.buffers) b c.follow.ensures.bides (keeps_bides _ b c.answered.ensures.reported)))
            ],
          )),
      c.answered.ensures.size ∙ (c.follow.ensures.size ∙ k.2),
    )
