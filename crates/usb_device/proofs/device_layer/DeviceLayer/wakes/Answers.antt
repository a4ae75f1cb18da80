use Rattle.std.proofs.Common.{ap, ◌∙◌}
use Rattle.usb_device.specs.Events.{WakeAsked}
use Rattle.usb_device.specs.Steps.{LayerState, wakes}
use Rattle.usb_device.proofs.Next.{next}
use Rattle.usb_device.proofs.Stating.{wakes_looked}
use Rattle.usb_device.proofs.device_layer.DeviceLayer.wakes.Goals as goal

pub returns-clause-refines : goal.returns-clause-refines
returns-clause-refines c = λ lent past h.
    next lent past c.args.self.now _ (WakeAsked c.args.has_report c.answer_wakes.result) h c.answer_wakes.ensures.answer c.answer_wakes.ensures.left

pub returns-clause-answer : goal.returns-clause-answer
returns-clause-answer c = λ lent past h.
    c.answer_wakes.ensures.answer ∙ (ap (λ (s : LayerState). wakes s c.args.has_report) h.state ∙ wakes_looked lent past c.args.has_report h.answered)
