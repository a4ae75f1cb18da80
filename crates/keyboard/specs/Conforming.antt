-- Trusted: what each call is answered, by the calls before it.
use Rattle.shapes.specs.Shapes.{Bytes}
use Rattle.std.specs.Prelude.{◌≡◌, Bool, is_some, Option, None, Some, List}
use Rattle.layers.specs.Codes.{DefaultCodes}
use Rattle.layers.specs.declared.command.Command.{Command}
use Rattle.page_turnover.specs.declared.operation.Operation.{Operation}
use Rattle.key_reports.specs.Past.{answer_after}
use Rattle.keymap_store.specs.declared.store.Work.{Work as WorkAnswer}
use Rattle.keymap_store.specs.declared.store.Work.TheVariants.{Idle}
use Rattle.control_ep.specs.declared.answer.EpAnswer.{EpAnswer}
use Rattle.control_ep.specs.declared.answer.EpAnswer.TheVariants.{Ack}
use Rattle.control_ep.specs.declared.answer.OutStep.{OutStep}
use Rattle.control_ep.specs.declared.answer.OutStep.TheVariants.{Answered, Leds, Offer}
use Rattle.control_ep.specs.Answers.{out_step, in_answer}
use Rattle.keyboard.specs.Calls.{Call, Scanned, SetUp, Out, In, Polled, Worked, BusReset, image_after, EachCall}
use Rattle.keyboard.specs.Effects.{protocol_after}
use Rattle.keyboard.specs.Keys.{key_calls}
use Rattle.keyboard.specs.Endpoint.{stage_after}
use Rattle.keyboard.specs.Feature.{FeatureAnswer}
use Rattle.keyboard.specs.Commands.{working}
use Rattle.keyboard.specs.Operated.{Works}

module _ (defaults : DefaultCodes) where
  -- the answer to an OUT packet, by what it comes to in its stage: the endpoint's own; that LEDs are taken; or the one that
  -- the checks of a feature report give, by this image and by whether the keyboard is busy with a command
  abbrev pub OutAnswer : OutStep → Bytes → Bool → EpAnswer → Type 0
  OutAnswer (Answered answered) image busy answer = answer ≡ answered
  OutAnswer (Leds leds) image busy answer = answer ≡ Ack
  OutAnswer (Offer bytes) image busy answer = FeatureAnswer defaults image busy bytes answer

  -- a step of the flash work. Where no command works nothing is operated
  abbrev pub WorkedOn : Bytes → List Call → Option Command → WorkAnswer → Bytes → Type 0
  WorkedOn start before None work new = (work ≡ Idle) × (new ≡ image_after start before)
  WorkedOn start before (Some command) work new = Works defaults start before command (image_after start before) work new

  -- the answer of a call
  abbrev pub IsAnswered : Bytes → List Call → Call → Type 0
  IsAnswered start before (Scanned scan) = Unit {0}
  IsAnswered start before (SetUp bytes) = Unit {0}
  IsAnswered start before (Out packet answer) =
      OutAnswer (out_step (stage_after defaults start before) packet) (image_after start before) (is_some (working defaults start before)) answer
  IsAnswered start before (In answer) = answer ≡ in_answer (stage_after defaults start before)
  IsAnswered start before (Polled answer) = answer ≡ answer_after (protocol_after before) (key_calls defaults start before)
  IsAnswered start before (Worked work image) = WorkedOn start before (working defaults start before) work image
  IsAnswered start before BusReset = Unit {0}

  -- each call of a session was answered so
  abbrev pub IsConforming : Bytes → List Call → Type 0
  IsConforming start past = EachCall IsAnswered start past

  -- a step of the flash work while a command works, and this holds of the operation that it makes
  pub record MakesSuch (start : Bytes) (before : List Call) (work : WorkAnswer) (new : Bytes) (such : Operation → Type 0) : Type 0 where
    pub command : Command
    pub works_on : working defaults start before ≡ Some command
    pub step : Works defaults start before command (image_after start before) work new
    pub is_such : such step.operation
