-- Trusted: what a SETUP packet says, the transfers that requests begin, and the stages of a transfer (USB 2.0 sections
-- 8.5.3 and 9.3).
use Rattle.shapes.specs.Shapes.{Bytes}
use Rattle.std.specs.Prelude.{ℕ}
use Rattle.control_ep.specs.declared.why.Why.{Why}
use Rattle.control_ep.specs.declared.answer.Effect.{Effect}

-- the fields of a SETUP packet: bmRequestType, bRequest, wValue, wIndex, wLength (USB 2.0 table 9-2)
pub record SetupFields : Type 0 where
  pub kind : ℕ
  pub code : ℕ
  pub value : ℕ
  pub index : ℕ
  pub length : ℕ

-- the reports that SET_REPORT takes
pub data HostReport : Type 0 where
  -- the LED byte after its Report ID
  LedsWithId : HostReport
  -- the LED byte alone
  LedsAlone : HostReport
  FeatureData : HostReport

-- what a request that is served begins
pub data Transfer : Type 0 where
  -- a read of these bytes
  Reads : Bytes → Transfer
  -- a report from the host
  Takes : HostReport → Transfer
  -- no data, and this effect
  Sets : Effect → Transfer

-- where a transfer stands
pub data Stage : Type 0 where
  -- no transfer is under way
  Rest : Stage
  -- a read of these bytes, of which so many were asked for, and so many packets were sent
  Sending : Bytes → ℕ → ℕ → Stage
  -- a report is expected
  Taking : HostReport → Stage
  -- a feature command works
  Waiting : Stage
  -- the status packet is due, with this effect
  Status : Effect → Stage
  -- a packet was stalled, and so is each further one
  Stalled : Why → Stage
