-- Representation: what the endpoint's own types refine.
use Rattle.shapes.specs.Shapes.{Bytes}
use Rattle.std.specs.Prelude.{Option, Some, None, Result, Ok, Err}
use Rattle.control_ep.specs.declared.why.Why.{Why}
use Rattle.control_ep.specs.declared.answer.OutStep.{OutStep}
use Rattle.control_ep.specs.declared.answer.Received.{Received}
use Rattle.control_ep.specs.declared.endpoint.Stage as Kept
use Rattle.control_ep.specs.declared.request.HostReport as KeptReport
use Rattle.control_ep.specs.declared.request.Transfer as KeptTransfer
use Rattle.control_ep.specs.declared.request.Request.{Request}
use Rattle.control_ep.specs.representation.ReadData.{Reading}
use Rattle.control_ep.specs.Written.{as_step}
use Rattle.control_ep.specs.Transfers.{SetupFields, HostReport, LedsWithId, LedsAlone, FeatureData, Transfer, Reads, Takes, Sets, Stage, Rest, Sending, Taking, Waiting, Status, Stalled}

abbrev pub fields_view : Request → SetupFields
fields_view r = record { kind = r.kind; code = r.code; value = r.value; index = r.index; length = r.length }

abbrev pub report_view : KeptReport.HostReport → HostReport
report_view KeptReport.TheVariants.LedsWithId = LedsWithId
report_view KeptReport.TheVariants.LedsAlone = LedsAlone
report_view KeptReport.TheVariants.Feature = FeatureData

-- a transfer, and the bytes that it sends if it is a read
abbrev pub transfer_view : Bytes → KeptTransfer.Transfer → Transfer
transfer_view bytes KeptTransfer.TheVariants.Reads = Reads bytes
transfer_view bytes (KeptTransfer.TheVariants.Takes report) = Takes (report_view report)
transfer_view bytes (KeptTransfer.TheVariants.Sets effect) = Sets effect

abbrev pub begun_view : Bytes → Result KeptTransfer.Transfer Why → Result Transfer Why
begun_view bytes (Ok transfer) = Ok (transfer_view bytes transfer)
begun_view bytes (Err why) = Err why

abbrev pub asked_view : Bytes → Option (Result KeptTransfer.Transfer Why) → Option (Result Transfer Why)
asked_view bytes (Some begun) = Some (begun_view bytes begun)
asked_view bytes None = None

-- a stage, and the read that it speaks of if it is one
abbrev pub stage_view : Kept.Stage → Reading → Stage
stage_view Kept.TheVariants.Rest read = Rest
stage_view Kept.TheVariants.Sending read = Sending read.bytes read.asked read.sent
stage_view (Kept.TheVariants.Taking report) read = Taking (report_view report)
stage_view Kept.TheVariants.Waiting read = Waiting
stage_view (Kept.TheVariants.Status effect) read = Status effect
stage_view (Kept.TheVariants.Stalled why) read = Stalled why

abbrev pub received_view : Result Received Why → Result OutStep Why
received_view (Ok step) = Ok (as_step step)
received_view (Err why) = Err why
