-- Trusted: the feature report and the checks that it has to pass.
use Rattle.shapes.specs.Shapes.{Bytes}
use Rattle.std.specs.Prelude.{◌≡◌, ℕ, ◌+◌, ◌*◌, Bool, true, nat_lt, if◌then◌else◌, Result, Ok, Err, slice_index}
use Rattle.layers.specs.Codes.{layers, keys, DefaultCodes}
use Rattle.layers.specs.Commands.{command_read}
use Rattle.layers.specs.Entries.{ChangesNothing}
use Rattle.layers.specs.declared.code.KeymapError.{KeymapError}
use Rattle.layers.specs.declared.command.Command.{Command}
use Rattle.page_turnover.specs.Usable.{IsUsable}
use Rattle.keymap_store.specs.Submits.{IsWorn}
use Rattle.control_ep.specs.Reasons.{reason_of}
use Rattle.control_ep.specs.declared.why.Why.TheVariants.{BadLayer, BadKey, Unsound, Worn}
use Rattle.control_ep.specs.declared.answer.EpAnswer.{EpAnswer}
use Rattle.control_ep.specs.declared.answer.EpAnswer.TheVariants.{Ack, Nak, Stall}
use Rattle.keyboard.specs.Calls.{keymap}

-- the command in a report's bytes after its ID: operation, layer, key, and the code, low byte first; or the first of
-- these numbers that is none
abbrev pub command_of_bytes : Bytes → Result Command KeymapError
command_of_bytes bytes =
    command_read (slice_index bytes 0) (slice_index bytes 1) (slice_index bytes 2) (slice_index bytes 3 + 256 * slice_index bytes 4)

-- where p holds, q; else r
pub data Where (p q r : Type 0) : Type 0 where
  yes : p → q → Where p q r
  no : (p → ⊥) → r → Where p q r

module _ (defaults : DefaultCodes) where
  -- the answer to a well-formed command on an image
  abbrev pub CommandAnswer : Bytes → Command → EpAnswer → Type 0
  CommandAnswer image command answer =
      Where (IsUsable image → ⊥) (answer ≡ Stall Unsound)
      (Where (ChangesNothing defaults (keymap defaults image) command) (answer ≡ Ack)
      (Where (IsWorn image) (answer ≡ Stall Worn)
      (answer ≡ Ack)))

  -- the answer to what was read as a command: the first number that is none is refused for its reason
  abbrev pub ReadAnswer : Bytes → Result Command KeymapError → EpAnswer → Type 0
  ReadAnswer image (Err error) answer = answer ≡ Stall (reason_of error)
  ReadAnswer image (Ok command) answer = CommandAnswer image command answer

-- the answer to operation 0, which selects an entry for reading
abbrev pub select_answer : ℕ → ℕ → EpAnswer
select_answer layer key =
    if nat_lt layer layers then (if nat_lt key keys then Ack else Stall BadKey) else Stall BadLayer

module _ (defaults : DefaultCodes) where
  -- the answer to a feature report of the right length and ID: NAK while a command works; else the first check that it
  -- does not pass decides
  abbrev pub FeatureAnswer : Bytes → Bool → Bytes → EpAnswer → Type 0
  FeatureAnswer image busy bytes answer =
      Where (busy ≡ true) (answer ≡ Nak)
      (Where (slice_index bytes 0 ≡ 0) (answer ≡ select_answer (slice_index bytes 1) (slice_index bytes 2))
      (ReadAnswer defaults image (command_of_bytes bytes) answer))
