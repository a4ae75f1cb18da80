-- Trusted: the checks of a whole control transfer of a keyboard, in their order (docs/formats.md), and how the transfer ends by them.
use Rattle.shapes.specs.Shapes.{Bytes}
use Rattle.std.specs.Prelude.{◌≡◌, ◌==◌, ℕ, Bool, is_some, if◌then◌else◌, List, [], ◌∷◌, take, Result, Ok, Err}
use Rattle.layers.specs.Codes.{DefaultCodes}
use Rattle.control_ep.specs.declared.answer.EpAnswer.{EpAnswer as Answer}
use Rattle.control_ep.specs.declared.answer.EpAnswer.TheVariants.{Ack, Nak, Stall}
use Rattle.control_ep.specs.declared.why.Why.{Why}
use Rattle.control_ep.specs.declared.why.Why.TheVariants.{WrongStage}
use Rattle.control_ep.specs.Answers.{received_report, report_step}
use Rattle.control_ep.specs.Requests.{request_of, transfer_of}
use Rattle.control_ep.specs.Transfers.{HostReport, Transfer, Reads, Takes, Sets}
use Rattle.keyboard.specs.Calls.{Call, SetUp, BusReset, image_after}
use Rattle.keyboard.specs.Commands.{working}
use Rattle.keyboard.specs.Endpoint.{view_after}
use Rattle.keyboard.specs.Conforming.{OutAnswer}
use Rattle.usb_device.specs.declared.whole_transfers.TransferError.{TransferError}
use Rattle.usb_device.specs.declared.whole_transfers.TransferError.TheVariants.{Refused, Busy}

-- the answer where no data are due
abbrev pub without_data : Bytes → Answer
without_data [] = Ack
without_data (byte ∷ bytes) = Stall WrongStage

module _ (defaults : DefaultCodes) where
  -- the answer to the data of a report, on an image, where a command works or not: their length, the Report ID, and what they bring.
  -- Without data the status stage comes too early
  abbrev pub ReportAnswer : Bytes → Bool → HostReport → Bytes → Answer → Type 0
  ReportAnswer image busy report [] answer = answer ≡ Stall WrongStage
  ReportAnswer image busy report (byte ∷ bytes) answer = OutAnswer defaults (report_step (received_report report (byte ∷ bytes))) image busy answer

  -- by the transfer that the request begins. One that reads is no write, unless it asks for no byte. Its data are stalled. Without data
  -- the keyboard gives the first packet of what is read, and stalls nothing: it counts as a STALL here, for the write is refused
  abbrev pub TransferAnswer : Bytes → Bool → Transfer → ℕ → Bytes → Answer → Type 0
  TransferAnswer image busy (Takes report) asked data_ answer = ReportAnswer image busy report data_ answer
  TransferAnswer image busy (Sets effect) asked data_ answer = answer ≡ without_data data_
  TransferAnswer image busy (Reads bytes) asked data_ answer = answer ≡ (if asked == 0 then without_data data_ else Stall WrongStage)

  -- a request that is refused is refused for its own reason, whatever the data
  abbrev pub RequestAnswer : Bytes → Bool → Result Transfer Why → ℕ → Bytes → Answer → Type 0
  RequestAnswer image busy (Err why) asked data_ answer = answer ≡ Stall why
  RequestAnswer image busy (Ok transfer) asked data_ answer = TransferAnswer image busy transfer asked data_ answer

  -- what the checks of a write come to behind these calls: ACK where it is accepted, NAK where another command works, else a STALL
  -- for the first check that it does not pass
  abbrev pub WriteAnswer : Bytes → List Call → Bytes → Bytes → Answer → Type 0
  WriteAnswer start past setup data_ answer =
      RequestAnswer (image_after start past) (is_some (working defaults start past)) (transfer_of (request_of setup) (view_after defaults start past)) (request_of setup).length data_ answer

  -- they come to this, and to nothing else
  pub record IsChecked (start : Bytes) (past : List Call) (setup data_ : Bytes) (answer : Answer) : Type 0 where
    pub given : WriteAnswer start past setup data_ answer
    pub only : (other : Answer) → WriteAnswer start past setup data_ other → other ≡ answer

module _ (defaults : DefaultCodes) where
  -- the tables of requests refuse the SETUP packet of the transfer under way (USB 2.0 section 9.2.7)
  abbrev pub IsRefused : Bytes → List Call → Type 0
  IsRefused start [] = ⊥
  IsRefused start (SetUp bytes ∷ before) = (why : Why) × (transfer_of (request_of bytes) (view_after defaults start before) ≡ Err why)
  IsRefused start (BusReset ∷ before) = ⊥
  IsRefused start (_ ∷ before) = IsRefused start before

-- how a write fails by this answer of its checks. One that they accept is refused for a fault of the flash alone: never where it was
-- healthy, or answered none in the call
abbrev pub FailsBy : TransferError → Answer → Type 0 → Type 0
FailsBy Refused (Stall why) healthy = Unit {0}
FailsBy Refused Ack healthy = healthy → ⊥
FailsBy Busy Nak healthy = Unit {0}
FailsBy _ _ healthy = ⊥

-- what a read brings: as many bytes as it asks for, of those that its request reads. A request that is refused or does not read is
-- refused, and one that asks for no byte
abbrev pub read_answer : Result Transfer Why → ℕ → Result Bytes TransferError
read_answer (Ok (Reads bytes)) asked = if asked == 0 then Err Refused else Ok (take asked bytes)
read_answer _ asked = Err Refused
