-- Trusted: what a control endpoint was asked, and what it answered.
use Rattle.shapes.specs.Shapes.{Bytes}
use Rattle.control_ep.specs.declared.answer.EpAnswer.{EpAnswer}
use Rattle.control_ep.specs.declared.answer.OutStep.{OutStep}
use Rattle.control_ep.specs.declared.answer.Verdict.{Verdict}
use Rattle.control_ep.specs.declared.answer.Effect.{Effect}
use Rattle.control_ep.specs.declared.answer.DeviceView.{DeviceView}

-- a call of a control endpoint
pub data EpCall : Type 0 where
  -- a SETUP packet, with the device at that moment
  Setup : Bytes → DeviceView → EpCall
  -- an OUT packet, and what it came to
  Out : Bytes → OutStep → EpCall
  -- the verdict on an offer, and the answer to its packet
  Checked : Verdict → EpAnswer → EpCall
  -- the answer to an IN packet, and what it brings about
  In : EpAnswer → Effect → EpCall
  Settle : EpCall
  Fail : EpCall
  Reset : EpCall
