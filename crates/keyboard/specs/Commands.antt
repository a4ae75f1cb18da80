-- Trusted: the commands of a session: which were accepted, in order, and what has become of each.
use Rattle.shapes.specs.Shapes.{Bytes}
use Rattle.std.specs.Prelude.{ℕ, Option, None, Some, List, [], ◌∷◌, ◌++◌, drop, map}
use Rattle.std.specs.Option.{option_or, option_and_then}
use Rattle.std.specs.Result.{result_ok}
use Rattle.layers.specs.Codes.{DefaultCodes}
use Rattle.layers.specs.declared.command.Command.{Command}
use Rattle.control_ep.specs.Transfers.{HostReport, FeatureData}
use Rattle.keyboard.specs.Calls.{Call, image_after, keymap}
use Rattle.keyboard.specs.Effects.{SentReport, report_taken}
use Rattle.keyboard.specs.Feature.{command_of_bytes}
use Rattle.keyboard.specs.Fate.{Fate, works, settled, failed, fate}

-- a command that was accepted, and what has become of it
pub record Accepted : Type 0 where
  pub command : Command
  pub fate : Fate

-- the command in a report: in its bytes after the ID, if it is the feature report
abbrev pub command_of : HostReport → Bytes → Option Command
command_of FeatureData bytes = result_ok (command_of_bytes (drop 1 bytes))
command_of _ bytes = None

-- the command in the report that a call took, if it took one and there is a command in it
abbrev pub command_in_report : Option SentReport → Option Command
command_in_report taken = option_and_then (λ sent. command_of sent.report sent.bytes) taken

-- a command is accepted where a feature report with it is acknowledged
unfoldable pub accepts : List Call → Call → Option Command
accepts before call = command_in_report (report_taken before call)

module _ (defaults : DefaultCodes) where
  -- a command that a call accepts, with what became of it by the calls after
  abbrev pub accepted_with : (ℕ → ℕ → ℕ) → List Call → Option Command → List Accepted
  accepted_with entries after (Some command) = record { command = command; fate = fate defaults entries command after } ∷ []
  accepted_with entries after None = []

  -- the commands accepted in these calls, in order, each with what became of it by the calls `after` them, newest first
  abbrev pub accepted_before : Bytes → List Call → List Call → List Accepted
  accepted_before start after [] = []
  accepted_before start after (call ∷ before) =
      accepted_before start (after ++ call ∷ []) before
      ++ accepted_with (keymap defaults (image_after start before)) after (accepts before call)

  -- the commands accepted in a session, in order
  unfoldable pub accepted : Bytes → List Call → List Accepted
  accepted start past = accepted_before start [] past

-- a command, where this became of it: that it works
abbrev pub if_works : Fate → Command → Option Command
if_works works command = Some command
if_works _ command = None

-- a command before later ones, where it is settled; else the later ones alone
abbrev pub if_settled : Fate → Command → List Command → List Command
if_settled settled command later = command ∷ later
if_settled _ command later = later

-- a command before later ones, where it did not fail; else the later ones alone
abbrev pub unless_failed : Fate → Accepted → List Accepted → List Accepted
unless_failed failed one later = later
unless_failed _ one later = one ∷ later

-- the last of these commands that works, if one does
abbrev pub working_of : List Accepted → Option Command
working_of [] = None
working_of (one ∷ later) = option_or (working_of later) (if_works one.fate one.command)

module _ (defaults : DefaultCodes) where
  -- the command that works after these calls, if one does: the keyboard is busy then
  unfoldable pub working : Bytes → List Call → Option Command
  working start past = working_of (accepted defaults start past)

-- those that are settled, in order
abbrev pub settled_of : List Accepted → List Command
settled_of [] = []
settled_of (one ∷ later) = if_settled one.fate one.command (settled_of later)

-- those that did not fail, in order, each with what became of it
abbrev pub standing_of : List Accepted → List Accepted
standing_of [] = []
standing_of (one ∷ later) = unless_failed one.fate one (standing_of later)

-- the commands, without what became of them
abbrev pub commands_of : List Accepted → List Command
commands_of all = map (λ one. one.command) all
