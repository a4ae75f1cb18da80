-- A request that the tables refuse is stalled, packet by packet.
use Rattle.std.proofs.lemmas.Grind.{common_steps}
use Rattle.std.proofs.Common.{arith}
use Rattle.std.proofs.Common.{◌≡◌, ℕ, is_some, List, [], ◌∷◌, Option, Some, None, refl, ap, subst, ◌∙◌}
use Rattle.layers.specs.Codes.{DefaultCodes}
use Rattle.keymap_store.specs.declared.store.Work.TheVariants as Works
use Rattle.control_ep.specs.declared.why.Why.{Why}
use Rattle.control_ep.specs.declared.answer.EpAnswer.{EpAnswer as Answer}
use Rattle.control_ep.specs.declared.answer.OutStep.{OutStep}
use Rattle.control_ep.specs.Calls.{EpCall}
use Rattle.control_ep.specs.Requests.{request_of}
use Rattle.control_ep.specs.Stage.{RefusedFor, outcome_of, last_setup, calls_since, first_stall, progress_of, stage_with, unless_stalled, stage}
use Rattle.control_ep.specs.Transfers.{Stage, Stalled}
use Rattle.control_ep.specs.Answers.{out_step, in_answer}
use Rattle.keyboard.specs.Calls.{Call, Scanned, SetUp, Out, In, Polled, Worked, BusReset, image_after, keymap}
use Rattle.keyboard.specs.Commands.{working}
use Rattle.keyboard.specs.Conforming.{IsConforming, OutAnswer}
use Rattle.keyboard.specs.Endpoint.{ep_calls, stage_after, with_out}
use Rattle.usb_device.specs.Answered.{AllStalled}
use Rattle.usb_keyboard.specs.Checks.{IsRefused}
use Rattle.usb_keyboard.specs.Plain.{plain, usb_calls}

stalled_for : (first : Option Why) (why : Why) → (other : Why) × (unless_stalled first (Stalled why) ≡ Stalled other)
stalled_for (Some other) why = (other, refl)
stalled_for None why = (why, refl)

module _ (defaults : DefaultCodes) where
  out_last : (step : OutStep) (packet : List ℕ) (entries : ℕ → ℕ → ℕ) (answer : Answer) (calls : List EpCall) → last_setup (with_out defaults step packet entries answer calls) ≡ last_setup calls
  out_last step packet entries answer calls = grind (arith, common_steps)

  last_refused : (start : List ℕ) (past : List Call) → IsRefused defaults start past → (why : Why) × (last_setup (ep_calls defaults start past) ≡ RefusedFor why)
  unfolding ep_calls
  last_refused start [] r = absurd r
  last_refused start (SetUp bytes ∷ before) r = (r.0, ap (λ x. outcome_of x (request_of bytes).length) r.1)
  last_refused start (BusReset ∷ before) r = absurd r
  last_refused start (Out packet answer ∷ before) r =
      let l = last_refused start before r in
      (l.0, out_last (out_step (stage_after defaults start before) packet) packet (keymap defaults (image_after start before)) answer (ep_calls defaults start before) ∙ l.1)
  last_refused start (In answer ∷ before) r = last_refused start before r
  last_refused start (Scanned scan ∷ before) r = last_refused start before r
  last_refused start (Polled answer ∷ before) r = last_refused start before r
  last_refused start (Worked Works.Idle image ∷ before) r = last_refused start before r
  last_refused start (Worked Works.Working image ∷ before) r = last_refused start before r
  last_refused start (Worked Works.Settled image ∷ before) r = last_refused start before r
  last_refused start (Worked Works.Failed image ∷ before) r = last_refused start before r

  stage_refused : (start : List ℕ) (past : List Call) → IsRefused defaults start past → (why : Why) × (stage_after defaults start past ≡ Stalled why)
  unfolding stage
  stage_refused start past r =
      let l = last_refused start past r in
      let calls = ep_calls defaults start past in
      let f = stalled_for (first_stall (calls_since calls)) l.0 in
      (f.0, ap (λ x. unless_stalled (first_stall (calls_since calls)) (stage_with x (progress_of (calls_since calls)))) l.1 ∙ f.1)

  pub all_stalled : (start : List ℕ) (past : List Call) → IsConforming defaults start past → IsRefused defaults start past → AllStalled (usb_calls past)
  all_stalled start [] c r = absurd r
  all_stalled start (SetUp bytes ∷ before) c r = tt
  all_stalled start (BusReset ∷ before) c r = absurd r
  all_stalled start (Out packet answer ∷ before) c r =
      let s = stage_refused start before r in
      let A : Stage → Type 0 = λ x. OutAnswer defaults (out_step x packet) (image_after start before) (is_some (working defaults start before)) answer in
      (ap plain (subst A s.1 c.0), all_stalled start before c.1 r)
  all_stalled start (In answer ∷ before) c r =
      let s = stage_refused start before r in (ap plain (c.0 ∙ ap in_answer s.1), all_stalled start before c.1 r)
  all_stalled start (Scanned scan ∷ before) c r = all_stalled start before c.1 r
  all_stalled start (Polled answer ∷ before) c r = all_stalled start before c.1 r
  all_stalled start (Worked work image ∷ before) c r = all_stalled start before c.1 r
