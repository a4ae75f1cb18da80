-- Trusted: the entries of a keymap by the commands that changed it: the last writer decides.
use Rattle.shapes.specs.Shapes.{SlotWords}
use Rattle.std.specs.Prelude.{◌≡◌, ◌≢◌, ℕ, ◌<◌, ◌==◌, ◌&&◌, if◌then◌else◌, Option, Some, None, unwrap_or, List, [], ◌∷◌, All}
use Rattle.std.specs.List.{filter_map}
use Rattle.std.specs.Option.{option_and_then, option_or}
use Rattle.layers.specs.Codes.{layers, keys, default_code, DefaultCodes}
use Rattle.layers.specs.Formats.{command_by_format}
use Rattle.layers.specs.declared.command.Command.{Command}
use Rattle.layers.specs.declared.command.Command.TheVariants.{SetKey, ResetLayer, ResetAll}

module _ (defaults : DefaultCodes) where
  -- the code that a command gives a key on a layer, if it writes that entry
  abbrev pub written : Command → ℕ → ℕ → Option ℕ
  written (SetKey l k code) layer key = if (l == layer) && (k == key) then Some code else None
  written (ResetLayer l) layer key = if l == layer then Some (default_code defaults layer key) else None
  written ResetAll layer key = Some (default_code defaults layer key)

  -- what the last command that writes the entry gives it, if one does
  unfoldable pub last_written : List Command → ℕ → ℕ → Option ℕ
  last_written [] layer key = None
  last_written (command ∷ later) layer key = option_or (last_written later layer key) (written command layer key)

  -- entries after these commands, in order: the last writer's, else the old one
  unfoldable pub changed : (ℕ → ℕ → ℕ) → List Command → ℕ → ℕ → ℕ
  changed entries commands layer key = unwrap_or (last_written commands layer key) (entries layer key)

-- the commands among the words of a page of this format, in order; a word that is no command is passed over
unfoldable pub commands_in : ℕ → SlotWords → List Command
commands_in format words = filter_map (command_by_format format) words

module _ (defaults : DefaultCodes) where
  -- the entry of a key on a layer by the words of a page of this format
  unfoldable pub entry_in : ℕ → SlotWords → ℕ → ℕ → ℕ
  entry_in format words layer key = changed defaults (default_code defaults) (commands_in format words) layer key

  -- what a word gives an entry, if it is a command that writes it
  abbrev pub written_by_word : ℕ → ℕ → ℕ → ℕ → Option ℕ
  written_by_word format word layer key = option_and_then (λ command. written defaults command layer key) (command_by_format format word)

  -- none of these words writes the entry
  abbrev pub NoneWrites : ℕ → SlotWords → ℕ → ℕ → Type 0
  NoneWrites format words layer key = All (λ word. written_by_word format word layer key ≡ None) words

  -- some entry differs after the command
  pub record ChangesSome (entries : ℕ → ℕ → ℕ) (command : Command) : Type 0 where
    pub layer : ℕ
    pub key : ℕ
    pub in_layers : layer < layers
    pub in_keys : key < keys
    pub differs : changed defaults entries (command ∷ []) layer key ≢ entries layer key

  -- no entry differs after the command
  pub record ChangesNothing (entries : ℕ → ℕ → ℕ) (command : Command) : Type 0 where
    pub each : (layer key : ℕ) → layer < layers → key < keys → changed defaults entries (command ∷ []) layer key ≡ entries layer key
