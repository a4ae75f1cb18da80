-- Trusted: what each packet is answered, stage by stage (USB 2.0 section 8.5.3).
use Rattle.shapes.specs.Shapes.{Bytes}
use Rattle.std.specs.Prelude.{ℕ, ◌%◌, ◌^◌, ◌==◌, not, Bool, true, [], ◌∷◌, length, drop, slice_index, nat_lt, if◌then◌else◌, Option, Some, None, Result, Ok, Err}
use Rattle.control_ep.specs.declared.why.Why.{Why}
use Rattle.control_ep.specs.declared.why.Why.TheVariants.{UnknownReport, ShortData, LongData, WrongStage}
use Rattle.control_ep.specs.declared.answer.EpAnswer.{EpAnswer}
use Rattle.control_ep.specs.declared.answer.EpAnswer.TheVariants.{Ack, Nak, Packet, Stall}
use Rattle.control_ep.specs.declared.answer.OutStep.{OutStep}
use Rattle.control_ep.specs.declared.answer.OutStep.TheVariants.{Answered, Leds, Offer}
use Rattle.control_ep.specs.declared.answer.Verdict.{Verdict}
use Rattle.control_ep.specs.declared.answer.Verdict.TheVariants.{Done, Working, Busy, Refused}
use Rattle.control_ep.specs.declared.answer.Effect.{Effect}
use Rattle.control_ep.specs.declared.answer.Effect.TheVariants.{Nothing}
use Rattle.control_ep.specs.Transfers.{HostReport, LedsWithId, LedsAlone, FeatureData, Stage, Sending, Taking, Waiting, Status, Stalled}
use Rattle.control_ep.specs.Requests.{length_of, id_of}
use Rattle.control_ep.specs.Packets.{packet_at}

-- the packet that is left to send
abbrev pub packet_or_stall : Option Bytes → EpAnswer
packet_or_stall (Some packet) = Packet (record { items = packet })
packet_or_stall None = Stall WrongStage

-- the answer to an IN packet
abbrev pub in_answer : Stage → EpAnswer
in_answer (Sending bytes asked sent) = packet_or_stall (packet_at bytes asked sent)
in_answer (Status effect) = Packet (record { items = [] })
in_answer Waiting = Nak
in_answer (Stalled why) = Stall why
in_answer _ = Stall WrongStage

-- what it brings about: the status packet has its transfer's effect
abbrev pub in_effect : Stage → Effect
in_effect (Status effect) = effect
in_effect _ = Nothing

-- the report begins with its Report ID, if it has one
abbrev pub has_id : Option ℕ → Bytes → Bool
has_id None packet = true
has_id (Some id) packet = slice_index packet 0 == id

-- a report without its Report ID: LED bits 0 to 4 are taken, five bytes are offered
abbrev pub content : HostReport → Bytes → OutStep
content LedsWithId packet = Leds (slice_index packet 1 % 2 ^ 5)
content LedsAlone packet = Leds (slice_index packet 0 % 2 ^ 5)
content FeatureData packet = Offer (drop 1 packet)

-- the checks of a report's packet in their order
abbrev pub received_report : HostReport → Bytes → Result OutStep Why
received_report report packet =
    if nat_lt (length packet) (length_of report) then Err ShortData
    else (if nat_lt (length_of report) (length packet) then Err LongData
    else (if not (has_id (id_of report) packet) then Err UnknownReport
    else Ok (content report packet)))

-- what a report's packet comes to
abbrev pub report_step : Result OutStep Why → OutStep
report_step (Ok step) = step
report_step (Err why) = Answered (Stall why)

-- an empty packet ends a transfer that reads, at any time
abbrev pub closing_step : Bytes → OutStep
closing_step [] = Answered Ack
closing_step (_ ∷ _) = Answered (Stall WrongStage)

-- what an OUT packet comes to
abbrev pub out_step : Stage → Bytes → OutStep
out_step (Sending bytes asked sent) packet = closing_step packet
out_step (Taking report) packet = report_step (received_report report packet)
out_step (Stalled why) packet = Answered (Stall why)
out_step _ packet = Answered (Stall WrongStage)

-- the answer to an offered packet
abbrev pub checked_answer : Verdict → EpAnswer
checked_answer Done = Ack
checked_answer Working = Ack
checked_answer Busy = Nak
checked_answer (Refused why) = Stall why

-- the answer of a verdict: out of place where no feature report is due
abbrev pub verdict_answer : Stage → Verdict → EpAnswer
verdict_answer (Taking FeatureData) verdict = checked_answer verdict
verdict_answer (Stalled why) verdict = Stall why
verdict_answer _ verdict = Stall WrongStage

-- P holds where the answer is NAK
abbrev pub IfNak : EpAnswer → Type 0 → Type 0
IfNak Nak P = P
IfNak _ P = Unit {0}

-- P holds of the reason of a STALL
abbrev pub IfStall : EpAnswer → (Why → Type 0) → Type 0
IfStall (Stall why) P = P why
IfStall _ P = Unit {0}

-- P holds of the answer to an OUT packet that needs no verdict and sets no LEDs
abbrev pub IfAnswered : OutStep → (EpAnswer → Type 0) → Type 0
IfAnswered (Answered answer) P = P answer
IfAnswered _ P = Unit {0}

-- P holds where the packet waits for its verdict
abbrev pub IfOffer : OutStep → Type 0 → Type 0
IfOffer (Offer _) P = P
IfOffer _ P = Unit {0}
