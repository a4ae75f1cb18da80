-- The stage of a transfer and the SETUP packet that began it.
use Rattle.std.proofs.Common.{◌≡◌, ℕ, ◌==◌, Bool, true, false, if◌then◌else◌, Option, Some, None, Result, Ok, Err, List, [], ◌∷◌, refl, sym, subst}
use Rattle.control_ep.specs.declared.why.Why.{Why}
use Rattle.control_ep.specs.declared.answer.EpAnswer.{EpAnswer}
use Rattle.control_ep.specs.declared.answer.Effect.{Effect}
use Rattle.control_ep.specs.declared.answer.Effect.TheVariants.{Nothing}
use Rattle.control_ep.specs.declared.answer.OutStep.{OutStep}
use Rattle.control_ep.specs.declared.answer.OutStep.TheVariants.{Answered, Leds, Offer}
use Rattle.control_ep.specs.declared.answer.DeviceView.{DeviceView}
use Rattle.control_ep.specs.Transfers.{Transfer, Reads, Takes, Sets, Stage, Rest, Sending, Taking, Status}
use Rattle.control_ep.specs.Calls.{EpCall}
use Rattle.control_ep.specs.Requests.{request_of, transfer_of}
use Rattle.control_ep.specs.Stage.{LastSetup, NoSetup, outcome_of, calls_since, last_setup, first_stall, Progress, progress_of, CommandState, NoCommand, Works, Settled, Failed, until_confirmed, after_command, stage_in, stage_with as stage_by, unless_stalled, stage}
use Rattle.control_ep.specs.Answers.{out_step}
use Rattle.layers.specs.Codes.{DefaultCodes}
use Rattle.keymap_store.specs.declared.store.Work.TheVariants as Work
use Rattle.keyboard.specs.Calls.{Call, Scanned, SetUp, Out, In, Polled, Worked, BusReset, setup_of, image_after, keymap}
use Rattle.keyboard.specs.Effects.{report_named, effect_asked}
use Rattle.keyboard.specs.Endpoint.{view_after, with_out, ep_calls, stage_after}
use Rattle.keyboard.proofs.Requests.{report_in, effect_in, begins_named}

-- the endpoint's last SETUP packet is the one of these calls
data Opened : Option (List ℕ) → LastSetup → Type 0 where
  nothing : Opened None NoSetup
  opened : (setup : List ℕ) (view : DeviceView) → Opened (Some setup) (outcome_of (transfer_of (request_of setup) view) (request_of setup).length)

-- what the stage says of the SETUP packet
abbrev pub Serves : Option (List ℕ) → Stage → Type 0
Serves setup (Sending bytes asked sent) = (report_named setup ≡ None) × (effect_asked setup ≡ Nothing)
Serves setup (Taking report) = (report_named setup ≡ Some report) × (effect_asked setup ≡ Nothing)
Serves setup (Status effect) = effect_asked setup ≡ effect
Serves setup _ = Unit {0}

serves_until : (setup : Option (List ℕ)) (confirmed : Bool) (effect : Effect) → effect_asked setup ≡ effect → Serves setup (until_confirmed confirmed effect)
serves_until setup true effect e = tt
serves_until setup false effect e = e

serves_command : (setup : Option (List ℕ)) (state : CommandState) (confirmed : Bool) → effect_asked setup ≡ Nothing → Serves setup (after_command state confirmed)
serves_command setup NoCommand confirmed e = serves_until setup confirmed Nothing e
serves_command setup Works confirmed e = tt
serves_command setup Settled confirmed e = serves_until setup confirmed Nothing e
serves_command setup Failed confirmed e = tt

serves_in : (setup : Option (List ℕ)) (transfer : Transfer) (length : ℕ) (progress : Progress) → report_named setup ≡ report_in transfer → effect_asked setup ≡ effect_in transfer
    → Serves setup (stage_in transfer length progress)
serves_in setup (Reads bytes) length progress r e = by_length (length == 0) progress.closed
  where
    by_length : (none closed : Bool) → Serves setup (if none then until_confirmed progress.confirmed Nothing else (if closed then Rest else Sending bytes length progress.sent))
    by_length true closed = serves_until setup progress.confirmed Nothing e
    by_length false true = tt
    by_length false false = (r, e)
serves_in setup (Takes report) length progress r e = by_taken progress.taken
  where
    by_taken : (b : Bool) → Serves setup (if b then after_command progress.command progress.confirmed else Taking report)
    by_taken true = serves_command setup progress.command progress.confirmed e
    by_taken false = (r, e)
serves_in setup (Sets effect) length progress r e = serves_until setup progress.confirmed effect e

serves_begun : (setup : List ℕ) (view : DeviceView) (begun : Result Transfer Why) (progress : Progress) → transfer_of (request_of setup) view ≡ begun
    → Serves (Some setup) (stage_by (outcome_of begun (request_of setup).length) progress)
unfolding report_named effect_asked
serves_begun setup view (Err why) progress e = tt
serves_begun setup view (Ok transfer) progress e =
    serves_in (Some setup) transfer (request_of setup).length progress (begins_named (request_of setup) view transfer e).0 (begins_named (request_of setup) view transfer e).1

serves_by : (setup : Option (List ℕ)) (last : LastSetup) (progress : Progress) → Opened setup last → Serves setup (stage_by last progress)
serves_by setup last progress nothing = tt
serves_by setup last progress (opened bytes view) = serves_begun bytes view (transfer_of (request_of bytes) view) progress refl

serves_unless : (setup : Option (List ℕ)) (why : Option Why) (now : Stage) → Serves setup now → Serves setup (unless_stalled why now)
serves_unless setup (Some why) now h = tt
serves_unless setup None now h = h

module _ (defaults : DefaultCodes) where
  last_setup-out : (step : OutStep) (packet : List ℕ) (entries : ℕ → ℕ → ℕ) (answer : EpAnswer) (calls : List EpCall) → last_setup (with_out defaults step packet entries answer calls) ≡ last_setup calls
  last_setup-out (Answered a) packet entries answer calls = refl
  last_setup-out (Leds leds) packet entries answer calls = refl
  last_setup-out (Offer bytes) packet entries answer calls = refl

  is_opened : (start : List ℕ) (past : List Call) → Opened (setup_of past) (last_setup (ep_calls defaults start past))
  unfolding ep_calls
  is_opened start [] = nothing
  is_opened start (Scanned scan ∷ before) = is_opened start before
  is_opened start (SetUp bytes ∷ before) = opened bytes (view_after defaults start before)
  is_opened start (Out packet answer ∷ before) =
      subst (λ (o : LastSetup). Opened (setup_of before) o)
      (sym (last_setup-out (out_step (stage (ep_calls defaults start before)) packet) packet (keymap defaults (image_after start before)) answer (ep_calls defaults start before)))
      (is_opened start before)
  is_opened start (In answer ∷ before) = is_opened start before
  is_opened start (Polled answer ∷ before) = is_opened start before
  is_opened start (Worked Work.Idle image ∷ before) = is_opened start before
  is_opened start (Worked Work.Working image ∷ before) = is_opened start before
  is_opened start (Worked Work.Settled image ∷ before) = is_opened start before
  is_opened start (Worked Work.Failed image ∷ before) = is_opened start before
  is_opened start (BusReset ∷ before) = nothing

  pub serves : (start : List ℕ) (past : List Call) → Serves (setup_of past) (stage_after defaults start past)
  unfolding stage
  serves start past =
      serves_unless (setup_of past) (first_stall (calls_since (ep_calls defaults start past))) (stage_by (last_setup (ep_calls defaults start past)) (progress_of (calls_since (ep_calls defaults start past))))
      (serves_by (setup_of past) (last_setup (ep_calls defaults start past)) (progress_of (calls_since (ep_calls defaults start past))) (is_opened start past))
