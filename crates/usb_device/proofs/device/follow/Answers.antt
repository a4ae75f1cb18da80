use Rattle.std.proofs.Common.{Option, true, refl, sym, ap, subst, ◌∙◌}
use Rattle.usb_device.specs.declared.answer.Endpoint1.{Endpoint1}
use Rattle.usb_device.specs.Bus1.{Bus1}
use Rattle.usb_device.specs.representation.Link1.{Link1, InStep}
use Rattle.usb_device.specs.representation.Layered.{with_state}
use Rattle.usb_device.proofs.Reporting.{goes1}
use Rattle.usb_device.proofs.Layering.{anew_in_step, anew_opened, anew_bides, bides_same, bides_then, keeps_bides, states_in_step}
use Rattle.usb_device.proofs.Pausing.{sets_some, sets_none, pause_no}
use Rattle.usb_device.specs.Pauses.{pause_by}
use Rattle.usb_device.proofs.device.follow.Goals as goal

pub returns-in-Some-clause-linked : goal.returns-in-Some-clause-linked
returns-in-Some-clause-linked g c = λ calls h.
    let i = c.begin_anew.ensures in
    let P : Bus1 → Type 0 = λ x. Link1 c.begin_anew-in-Some.new.self x calls in
    let old = g.B.Buffers.bus c.give_up_old.new.buffers in
    subst P (sym i.3)
    (c.begin_anew-in-Some.ensures.linked c.in-Some.state i.1 calls c.give_up_old.ensures.none
    (goes1 i.0 c.give_up_old.new.self old i.1 calls i.2 (c.give_up_old.ensures.linked calls h)))

pub returns-in-Some-clause-reported : goal.returns-in-Some-clause-reported
returns-in-Some-clause-reported g c = λ states h.
    let i = c.begin_anew.ensures in
    let S : Option Endpoint1 → Type 0 = λ x. InStep (with_state x states) (g.B.Buffers.bus c.begin_anew.new.self) in
    subst S (sym (sym c.endpoint_set.ensures ∙ c.in-Some.is)) (anew_in_step i.0 states c.in-Some.state _ i.1 _ i.2 i.3 (states_in_step states (g.B.Buffers.bus c.args.buffers.now) (g.B.Buffers.bus c.give_up_old.new.buffers) c.give_up_old.ensures.reported h))

pub returns-in-Some-clause-waits : goal.returns-in-Some-clause-waits
returns-in-Some-clause-waits g c =
    c.begin_anew-in-Some.ensures.waits ∙ (ap (λ x. pause_by true x) c.give_up_old.ensures.waits
    ∙ ap (λ x. pause_by x c.args.reports.now.left) (sym (sets_some c.args.change c.in-Some.state (sym c.endpoint_set.ensures ∙ c.in-Some.is))))

pub returns-in-None-clause-waits : goal.returns-in-None-clause-waits
returns-in-None-clause-waits g c =
    let left = c.args.reports.now.left in
    sym (ap (λ x. pause_by x left) (sets_none c.args.change (sym c.endpoint_set.ensures ∙ c.in-None.is)) ∙ pause_no left)

pub returns-in-Some-clause-opened : goal.returns-in-Some-clause-opened
returns-in-Some-clause-opened g c = λ state e. let i = c.begin_anew.ensures in anew_opened i.1 (g.B.Buffers.bus c.begin_anew.new.self) c.in-Some.state i.3

pub returns-in-Some-clause-bides : goal.returns-in-Some-clause-bides
returns-in-Some-clause-bides g c =
    let b = g.B.Buffers.bus in
    let i = c.begin_anew.ensures in
    bides_then (b c.args.buffers.now) (b c.give_up_old.new.buffers) (b c.begin_anew.new.self)
    (keeps_bides (b c.args.buffers.now) (b c.give_up_old.new.buffers) c.give_up_old.ensures.reported)
    (anew_bides i.0 (b c.give_up_old.new.buffers) i.1 (b c.begin_anew.new.self) c.in-Some.state i.2 i.3)

pub returns-in-None-clause-bides : goal.returns-in-None-clause-bides
returns-in-None-clause-bides g c = bides_same _ _ refl
