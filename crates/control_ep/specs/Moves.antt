-- Trusted where this crate is called: what each call does to the stage, the look-back of `stage` one call at a time.
use Rattle.shapes.specs.Shapes.{Bytes}
use Rattle.std.specs.Prelude.{◌+◌, []}
use Rattle.control_ep.specs.declared.why.Why.TheVariants.{FlashFault, WrongStage}
use Rattle.control_ep.specs.declared.answer.EpAnswer.{EpAnswer}
use Rattle.control_ep.specs.declared.answer.EpAnswer.TheVariants.{Stall}
use Rattle.control_ep.specs.declared.answer.OutStep.{OutStep}
use Rattle.control_ep.specs.declared.answer.OutStep.TheVariants.{Answered, Leds}
use Rattle.control_ep.specs.declared.answer.Verdict.{Verdict}
use Rattle.control_ep.specs.declared.answer.Verdict.TheVariants.{Done, Working, Busy, Refused}
use Rattle.control_ep.specs.declared.answer.Effect.TheVariants.{Nothing}
use Rattle.control_ep.specs.declared.answer.DeviceView.{DeviceView}
use Rattle.control_ep.specs.Transfers.{FeatureData, Stage, Rest, Sending, Taking, Waiting, Status, Stalled}
use Rattle.control_ep.specs.Calls.{EpCall, Setup, Out, Checked, In, Settle, Fail, Reset}
use Rattle.control_ep.specs.Requests.{request_of, transfer_of}
use Rattle.control_ep.specs.Stage.{outcome_of, progress_of, stage_with}

-- an IN packet: a data packet counts, the status packet ends the transfer, a STALL stays
abbrev pub after_in : Stage → EpAnswer → Stage
after_in stage (Stall why) = Stalled why
after_in (Sending bytes asked sent) answer = Sending bytes asked (sent + 1)
after_in (Status effect) answer = Rest
after_in stage answer = stage

-- an OUT packet: LEDs are taken, an offer changes nothing, the closing packet ends a read
abbrev pub after_out : Stage → OutStep → Stage
after_out stage (Answered (Stall why)) = Stalled why
after_out stage (Answered answer) = Rest
after_out stage (Leds leds) = Status Nothing
after_out stage offer = stage

-- a verdict: out of place where no feature report is due
abbrev pub after_verdict : Stage → Verdict → Stage
after_verdict (Taking FeatureData) Done = Status Nothing
after_verdict (Taking FeatureData) Working = Waiting
after_verdict (Taking FeatureData) Busy = Taking FeatureData
after_verdict (Taking FeatureData) (Refused why) = Stalled why
after_verdict (Stalled why) verdict = Stalled why
after_verdict _ verdict = Stalled WrongStage

-- the end of a command: only a transfer that waits for it goes on
abbrev pub after_end : Stage → Stage → Stage
after_end Waiting next = next
after_end stage next = stage

-- a SETUP packet: the first stage of the transfer that it begins, or stalled where it is refused
abbrev pub begun : Bytes → DeviceView → Stage
begun setup view = stage_with (outcome_of (transfer_of (request_of setup) view) (request_of setup).length) (progress_of [])

-- the stage after one more call
abbrev pub stage_then : Stage → EpCall → Stage
stage_then stage (Setup setup view) = begun setup view
stage_then stage (Out packet step) = after_out stage step
stage_then stage (Checked verdict answer) = after_verdict stage verdict
stage_then stage (In answer effect) = after_in stage answer
stage_then stage Settle = after_end stage (Status Nothing)
stage_then stage Fail = after_end stage (Stalled FlashFault)
stage_then stage Reset = Rest
