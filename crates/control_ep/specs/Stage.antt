-- Trusted: the stage of the transfer under way, by looking back over the calls, newest first.
use Rattle.std.specs.Prelude.{ℕ, ◌+◌, ◌==◌, Bool, true, false, List, [], ◌∷◌, length, if◌then◌else◌, Option, Some, None, Result, Ok, Err}
use Rattle.std.specs.List.{list_any}
use Rattle.std.specs.Option.{option_or}
use Rattle.control_ep.specs.declared.why.Why.{Why}
use Rattle.control_ep.specs.declared.why.Why.TheVariants.{FlashFault}
use Rattle.control_ep.specs.declared.answer.EpAnswer.{EpAnswer}
use Rattle.control_ep.specs.declared.answer.EpAnswer.TheVariants.{Ack, Packet, Stall}
use Rattle.control_ep.specs.declared.answer.OutStep.TheVariants.{Answered, Leds}
use Rattle.control_ep.specs.declared.answer.Verdict.TheVariants as Verdicts
use Rattle.control_ep.specs.declared.answer.Effect.{Effect}
use Rattle.control_ep.specs.declared.answer.Effect.TheVariants.{Nothing}
use Rattle.control_ep.specs.Transfers.{Transfer, Reads, Takes, Sets, Stage, Rest, Sending, Taking, Waiting, Status, Stalled}
use Rattle.control_ep.specs.Calls.{EpCall, Setup, Out, Checked, In, Settle, Fail, Reset}
use Rattle.control_ep.specs.Requests.{request_of, transfer_of}

-- the calls after the last SETUP or reset
abbrev pub calls_since : List EpCall → List EpCall
calls_since [] = []
calls_since (Setup setup view ∷ past) = []
calls_since (Reset ∷ past) = []
calls_since (call ∷ past) = call ∷ calls_since past

-- what the last SETUP packet came to
pub data LastSetup : Type 0 where
  -- there is none: none came since the start or the last reset
  NoSetup : LastSetup
  -- it was refused, for this reason
  RefusedFor : Why → LastSetup
  -- it began this transfer, and asks for so many bytes (wLength)
  Begins : Transfer → ℕ → LastSetup

-- a SETUP packet that asks for so many bytes, by whether its request is served
abbrev pub outcome_of : Result Transfer Why → ℕ → LastSetup
outcome_of (Ok transfer) length = Begins transfer length
outcome_of (Err why) length = RefusedFor why

-- the last SETUP packet of these calls
abbrev pub last_setup : List EpCall → LastSetup
last_setup [] = NoSetup
last_setup (Setup setup view ∷ past) = outcome_of (transfer_of (request_of setup) view) (request_of setup).length
last_setup (Reset ∷ past) = NoSetup
last_setup (_ ∷ past) = last_setup past

-- the reason of an answer that is a STALL
abbrev pub reason_in : EpAnswer → Option Why
reason_in (Stall why) = Some why
reason_in _ = None

-- why a packet was stalled, if it was
abbrev pub stall_of : EpCall → Option Why
stall_of (Out _ (Answered answer)) = reason_in answer
stall_of (Checked _ answer) = reason_in answer
stall_of (In answer _) = reason_in answer
stall_of _ = None

-- why the first packet of these that was stalled was
abbrev pub first_stall : List EpCall → Option Why
first_stall [] = None
first_stall (call ∷ before) = option_or (first_stall before) (stall_of call)

-- the call is an empty OUT packet
abbrev pub is_empty_out : EpCall → Bool
is_empty_out (Out [] _) = true
is_empty_out _ = false

-- how many IN packets came
abbrev pub count_in : List EpCall → ℕ
count_in [] = 0
count_in (In _ _ ∷ before) = count_in before + 1
count_in (_ ∷ before) = count_in before

-- an answer acknowledges
abbrev pub is_ack : EpAnswer → Bool
is_ack Ack = true
is_ack _ = false

-- the call is an OUT packet or its verdict, and acknowledges it
abbrev pub acknowledges : EpCall → Bool
acknowledges (Out _ (Answered answer)) = is_ack answer
acknowledges (Out _ (Leds _)) = true
acknowledges (Checked _ answer) = is_ack answer
acknowledges _ = false

-- what became of the command of a feature report: there is none, it works, it is settled, or it failed
pub data CommandState : Type 0 where
  NoCommand : CommandState
  Works : CommandState
  Settled : CommandState
  Failed : CommandState

-- a command that works ends as the first end after it says
abbrev pub state_after : CommandState → CommandState → CommandState
state_after Works end = end
state_after state end = state

-- what became of the command that these calls began
abbrev pub command_state : List EpCall → CommandState
command_state [] = NoCommand
command_state (Checked Verdicts.Working _ ∷ before) = Works
command_state (Settle ∷ before) = state_after (command_state before) Settled
command_state (Fail ∷ before) = state_after (command_state before) Failed
command_state (_ ∷ before) = command_state before

-- an answer is the empty packet
abbrev pub is_empty_packet : EpAnswer → Bool
is_empty_packet (Packet packet) = length packet.items == 0
is_empty_packet _ = false

-- the call is an IN packet that the empty packet answered
abbrev pub is_empty_in : EpCall → Bool
is_empty_in (In answer _) = is_empty_packet answer
is_empty_in _ = false

-- the status stage, until its packet was given
abbrev pub until_confirmed : Bool → Effect → Stage
until_confirmed true effect = Rest
until_confirmed false effect = Status effect

-- after a report was taken: the status stage, but for a command that works or failed
abbrev pub after_command : CommandState → Bool → Stage
after_command Works confirmed = Waiting
after_command Failed confirmed = Stalled FlashFault
after_command NoCommand confirmed = until_confirmed confirmed Nothing
after_command Settled confirmed = until_confirmed confirmed Nothing

-- what the calls since the last SETUP tell
pub record Progress : Type 0 where
  -- an empty OUT packet came
  pub closed : Bool
  -- how many IN packets came
  pub sent : ℕ
  -- an OUT packet was acknowledged
  pub taken : Bool
  -- what became of the command
  pub command : CommandState
  -- an IN packet was answered by the empty packet
  pub confirmed : Bool

-- these calls, newest first, tell this
abbrev pub progress_of : List EpCall → Progress
progress_of calls = record {
  closed = list_any is_empty_out calls;
  sent = count_in calls;
  taken = list_any acknowledges calls;
  command = command_state calls;
  confirmed = list_any is_empty_in calls;
}

-- the stage of a transfer none of whose packets was stalled
abbrev pub stage_in : Transfer → ℕ → Progress → Stage
stage_in (Reads bytes) length progress =
    if length == 0 then until_confirmed progress.confirmed Nothing
    else (if progress.closed then Rest else Sending bytes length progress.sent)
stage_in (Takes report) length progress = if progress.taken then after_command progress.command progress.confirmed else Taking report
stage_in (Sets effect) length progress = until_confirmed progress.confirmed effect

-- the stage after the last SETUP packet, none of whose packets was stalled
abbrev pub stage_with : LastSetup → Progress → Stage
stage_with NoSetup progress = Rest
stage_with (RefusedFor why) progress = Stalled why
stage_with (Begins transfer length) progress = stage_in transfer length progress

-- stalled for this reason, if there is one
abbrev pub unless_stalled : Option Why → Stage → Stage
unless_stalled (Some why) stage = Stalled why
unless_stalled None stage = stage

-- the stage: stalled from the first packet on that was; else as the SETUP and the calls since say
unfoldable pub stage : List EpCall → Stage
stage past =
    unless_stalled (first_stall (calls_since past)) (stage_with (last_setup past) (progress_of (calls_since past)))
