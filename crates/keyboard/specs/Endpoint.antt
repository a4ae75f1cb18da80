-- Trusted: the calls of the control endpoint: what a SETUP packet is answered from, and the verdicts on feature reports.
use Rattle.shapes.specs.Shapes.{Bytes}
use Rattle.std.specs.Prelude.{ℕ, ◌%◌, ◌/◌, Bool, if◌then◌else◌, List, [], ◌∷◌}
use Rattle.reports.specs.declared.Input.TheVariants.{Boot, One, Two}
use Rattle.reports.specs.Poll.{idle_value}
use Rattle.layers.specs.Codes.{DefaultCodes}
use Rattle.key_reports.specs.Past.{wanted_after, poller_calls}
use Rattle.control_ep.specs.declared.answer.DeviceView.{DeviceView}
use Rattle.control_ep.specs.declared.answer.EpAnswer.{EpAnswer}
use Rattle.control_ep.specs.declared.answer.EpAnswer.TheVariants.{Ack, Stall}
use Rattle.control_ep.specs.declared.answer.OutStep.{OutStep}
use Rattle.control_ep.specs.declared.answer.OutStep.TheVariants.{Offer}
use Rattle.control_ep.specs.declared.answer.Verdict.{Verdict}
use Rattle.control_ep.specs.declared.answer.Verdict.TheVariants.{Done, Working, Busy, Refused}
use Rattle.control_ep.specs.Calls.{EpCall, Setup, Out as EpOut, Checked, In as EpIn, Settle, Fail, Reset}
use Rattle.control_ep.specs.Stage.{stage}
use Rattle.control_ep.specs.Transfers.{Stage}
use Rattle.control_ep.specs.Answers.{out_step}
use Rattle.keymap_store.specs.declared.store.Work.TheVariants.{Settled, Failed}
use Rattle.keyboard.specs.Calls.{Call, SetUp, Out, In, Worked, BusReset, image_after, keymap}
use Rattle.keyboard.specs.Effects.{Entry, leds_after, selected, protocol_after, effect_reported}
use Rattle.keyboard.specs.Keys.{key_calls}
use Rattle.keyboard.specs.Feature.{command_of_bytes}
use Rattle.keyboard.specs.Fate.{changes_by}

-- the feature report: its ID, 0, layer and key of an entry, and its code, low byte first
abbrev pub feature_report : Entry → (ℕ → ℕ → ℕ) → Bytes
feature_report entry entries =
    3 ∷ 0 ∷ entry.layer ∷ entry.key ∷ entries entry.layer entry.key % 256 ∷ entries entry.layer entry.key / 256 ∷ []

module _ (defaults : DefaultCodes) where
  -- the keyboard as a SETUP packet finds it: what was set, the selected entry, and the bytes that each report has now
  unfoldable pub view_after : Bytes → List Call → DeviceView
  view_after start past = record {
    protocol = protocol_after past;
    idle_one = idle_value One (poller_calls (key_calls defaults start past));
    idle_two = idle_value Two (poller_calls (key_calls defaults start past));
    leds = leds_after past;
    feature = feature_report (selected past) (keymap defaults (image_after start past));
    bitmap = wanted_after (key_calls defaults start past) One;
    consumer = wanted_after (key_calls defaults start past) Two;
    boot = wanted_after (key_calls defaults start past) Boot;
  }

-- the verdict on a feature report, by the answer that was given: an acknowledged command works where it changes
-- something, and is done where it does not; NAK, the only other answer to an OUT packet, is for a keyboard whose
-- command works
abbrev pub verdict_reported : Bool → EpAnswer → Verdict
verdict_reported changing Ack = if changing then Working else Done
verdict_reported changing (Stall why) = Refused why
verdict_reported changing _ = Busy

module _ (defaults : DefaultCodes) where
  -- an OUT packet, with the verdict on it where it was offered
  abbrev pub with_out : OutStep → Bytes → (ℕ → ℕ → ℕ) → EpAnswer → List EpCall → List EpCall
  with_out (Offer bytes) packet entries answer calls =
      Checked (verdict_reported (changes_by defaults entries (command_of_bytes bytes)) answer) answer ∷ EpOut packet (Offer bytes) ∷ calls
  with_out step packet entries answer calls = EpOut packet step ∷ calls

  -- the keyboard's calls as those of its control endpoint: a step of the flash work is one where it ends a command, and a
  -- scan or a poll is none
  unfoldable pub ep_calls : Bytes → List Call → List EpCall
  ep_calls start [] = []
  ep_calls start (SetUp bytes ∷ before) = Setup bytes (view_after defaults start before) ∷ ep_calls start before
  ep_calls start (Out packet answer ∷ before) =
      with_out (out_step (stage (ep_calls start before)) packet) packet (keymap defaults (image_after start before)) answer (ep_calls start before)
  ep_calls start (In answer ∷ before) = EpIn answer (effect_reported before answer) ∷ ep_calls start before
  ep_calls start (Worked Settled image ∷ before) = Settle ∷ ep_calls start before
  ep_calls start (Worked Failed image ∷ before) = Fail ∷ ep_calls start before
  ep_calls start (BusReset ∷ before) = Reset ∷ ep_calls start before
  ep_calls start (_ ∷ before) = ep_calls start before

  -- the stage of the transfer
  abbrev pub stage_after : Bytes → List Call → Stage
  stage_after start past = stage (ep_calls start past)
