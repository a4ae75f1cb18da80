-- Representation: contracts of the keyboard's private calls.
use Rattle.shapes.specs.Shapes.{Bytes}
use Rattle.std.specs.Prelude.{◌≡◌, ◌≤◌, is_some, IsSome, None, Some, Result, Ok, Err, slice_index, if◌then◌else◌}
use Rattle.layers.specs.Codes.{DefaultCodes}
use Rattle.layers.specs.declared.command.Command.{Command}
use Rattle.control_ep.specs.declared.answer.EpAnswer.TheVariants.{Ack}
use Rattle.control_ep.specs.declared.answer.Verdict.{Verdict}
use Rattle.control_ep.specs.declared.answer.Verdict.TheVariants.{Done, Working, Busy, Refused}
use Rattle.control_ep.specs.Answers.{checked_answer}
use Rattle.keymap_store.specs.declared.store.Work.{Work as WorkAnswer}
use Rattle.keymap_store.specs.declared.store.Taken.{Taken}
use Rattle.keymap_store.specs.declared.store.Taken.TheVariants as Takens
use Rattle.keymap_store.specs.declared.store.SubmitRefusal.{SubmitRefusal}
use Rattle.keymap_store.specs.declared.store.SubmitRefusal.TheVariants as Refusals
use Rattle.control_ep.specs.declared.why.Why.TheVariants.{Unsound, Worn}
use Rattle.keymap_store.specs.Left.{left, Needs}
use Rattle.keymap_store.specs.Operations.{operations_of}
use Rattle.keymap_store.specs.representation.Rest.{rest_of, TakesFirst}
use Rattle.keymap_store.specs.Works.{WorkLeaves, CountsDown}
use Rattle.keymap_store.specs.Value.{StoreValue}
use Rattle.keyboard.specs.Calls.{keymap}
use Rattle.keyboard.specs.Feature.{command_of_bytes, FeatureAnswer}
use Rattle.keyboard.specs.Fate.{changes, changes_by}
use Rattle.keyboard.specs.Endpoint.{verdict_reported}
use Rattle.keyboard.specs.Bounded.{most_steps}
use Rattle.keyboard.specs.representation.Value.{KeyboardValue, RunsOn, at_work}

-- the verdict on a command, by what the store made of it
abbrev pub verdict_of : Result Taken SubmitRefusal → Verdict
verdict_of (Ok Takens.Settled) = Done
verdict_of (Ok Takens.Working) = Working
verdict_of (Err Refusals.Busy) = Busy
verdict_of (Err Refusals.Unsound) = Refused Unsound
verdict_of (Err Refusals.Worn) = Refused Worn

module _ (defaults : DefaultCodes) where
  -- what a verdict leaves: nothing is new where the report is not acknowledged; an entry is selected; or a command that
  -- changes something works, and one that changes nothing is done
  pub data VerdictLeaves (image bytes : Bytes) (verdict : Verdict) (old new : KeyboardValue) : Type 0 where
    refused : (checked_answer verdict ≡ Ack → ⊥) → new ≡ old → VerdictLeaves image bytes verdict old new
    selects : slice_index bytes 0 ≡ 0 → checked_answer verdict ≡ Ack
        → new ≡ record old { layer = slice_index bytes 1; key = slice_index bytes 2 } → VerdictLeaves image bytes verdict old new
    commands : (command : Command) → command_of_bytes bytes ≡ Ok command → checked_answer verdict ≡ Ack → at_work old ≡ None → new ≡ record old { store = new.store }
        → at_work new ≡ (if changes defaults (keymap defaults image) command then Some command else None) → left defaults image new.store ≤ most_steps
        → (IsSome (at_work new) → Needs defaults image (left defaults image new.store)) → (at_work new ≡ Some command → rest_of defaults image new.store ≡ operations_of defaults image command)
        → VerdictLeaves image bytes verdict old new

  -- a verdict on a feature report's bytes
  pub record Checks (image bytes : Bytes) (verdict : Verdict) (old new : KeyboardValue) : Type 0 where
    pub answer_is : FeatureAnswer defaults image (is_some (at_work old)) bytes (checked_answer verdict)
    pub reported : verdict ≡ verdict_reported (changes_by defaults (keymap defaults image) (command_of_bytes bytes)) (checked_answer verdict)
    pub runs_on : RunsOn defaults image new
    pub leaves : VerdictLeaves image bytes verdict old new

  -- the store makes a step of the flash work: what it guarantees of it
  pub record Operating (image : Bytes) (old : StoreValue) (work : WorkAnswer) (after : Bytes) (new : StoreValue) : Type 0 where
    pub leaves : WorkLeaves defaults image old work after new
    pub down : CountsDown work (left defaults image old) (left defaults after new)
    pub order : TakesFirst work (rest_of defaults image old) (rest_of defaults after new)
