-- The entries that words give are codes.
use Rattle.std.specs.Option.{option_or}
use Rattle.std.proofs.Common.{◌≡◌, ◌∙◌, ℕ, ◌<◌, ◌==◌, ◌&&◌, Bool, true, false, if◌then◌else◌, Option, Some, None, unwrap_or, List, [], ◌∷◌, refl, sym}
use Rattle.std.specs.Option.{option_and_then}
use Rattle.layers.specs.Codes.{keys, is_code, default_code, DefaultCodes}
use Rattle.layers.specs.Commands.{IsCommand, command_of}
use Rattle.layers.specs.Formats.{word_of_format_1, command_of_format_1, command_by_format}
use Rattle.layers.specs.Entries.{written, last_written, changed, commands_in, entry_in, written_by_word}
use Rattle.layers.specs.declared.command.Command.{Command}
use Rattle.layers.specs.declared.command.Command.TheVariants.{SetKey, ResetLayer, ResetAll}
use Rattle.layers.proofs.CommandWords.{word_of_command}
use Rattle.layers.proofs.Copying.{default_code-is_code}
use Rattle.layers.proofs.LastWriter.{commands_in-nil, last_written-word}

by_word : (word : Option ℕ) (command : Command) → option_and_then command_of word ≡ Some command → IsCommand command
by_word None command e = cc
by_word (Some word) command e = (word_of_command word command e).0

of_format_1 : (word : ℕ) (command : Command) → command_of_format_1 word ≡ Some command → IsCommand command
unfolding command_of_format_1
of_format_1 word command e = by_word (word_of_format_1 word) command e

in_format : (is_1 : Bool) (word : ℕ) (command : Command) → (if is_1 then command_of_format_1 word else command_of word) ≡ Some command → IsCommand command
in_format true word command e = of_format_1 word command e
in_format false word command e = (word_of_command word command e).0

-- what a word stands for is a command
pub command_by_format-is_command : (format word : ℕ) (command : Command) → command_by_format format word ≡ Some command → IsCommand command
command_by_format-is_command format word command e = in_format (format == 1) word command e

some_code : (x y : ℕ) → Some x ≡ Some y → is_code x ≡ true → is_code y ≡ true
some_code x y e c = let s : x ≡ y = cc in rw (← s) c

if_code : (b : Bool) (x y : ℕ) → (if b then Some x else None) ≡ Some y → is_code x ≡ true → is_code y ≡ true
if_code true x y e c = some_code x y e c
if_code false x y e c = cc

by_either : (later before : Option ℕ) (code : ℕ) → ((c : ℕ) → later ≡ Some c → is_code c ≡ true) → ((c : ℕ) → before ≡ Some c → is_code c ≡ true) → option_or later before ≡ Some code → is_code code ≡ true
by_either None before code l b e = b code e
by_either (Some x) before code l b e = l code e

module _ (defaults : DefaultCodes) where
  written-is_code : (command : Command) (layer key code : ℕ) → key < keys → IsCommand command → written defaults command layer key ≡ Some code → is_code code ≡ true
  written-is_code (SetKey l k c) layer key code w is e = if_code ((l == layer) && (k == key)) c code e is.2
  written-is_code (ResetLayer l) layer key code w is e = if_code (l == layer) (default_code defaults layer key) code e (default_code-is_code defaults layer key w)
  written-is_code ResetAll layer key code w is e = some_code (default_code defaults layer key) code e (default_code-is_code defaults layer key w)

  by_command : (command : Option Command) (layer key code : ℕ) → key < keys → ((c : Command) → command ≡ Some c → IsCommand c) → option_and_then (λ c. written defaults c layer key) command ≡ Some code → is_code code ≡ true
  by_command None layer key code w is e = cc
  by_command (Some c) layer key code w is e = written-is_code c layer key code w (is c refl) e

  last_written-is_code : (format : ℕ) (words : List ℕ) (layer key code : ℕ) → key < keys → last_written defaults (commands_in format words) layer key ≡ Some code → is_code code ≡ true
  unfolding last_written
  last_written-is_code format [] layer key code w e = let f : last_written defaults (commands_in format []) layer key ≡ None = rw (commands_in-nil format) refl in cc
  last_written-is_code format (word ∷ later) layer key code w e =
      by_either (last_written defaults (commands_in format later) layer key) (written_by_word defaults format word layer key) code
      (λ c f. last_written-is_code format later layer key c w f)
      (λ c f. by_command (command_by_format format word) layer key c w (λ command g. command_by_format-is_command format word command g) f)
      (sym (last_written-word defaults format word later layer key) ∙ e)

  default_or : (o : Option ℕ) (layer key : ℕ) → key < keys → ((c : ℕ) → o ≡ Some c → is_code c ≡ true) → is_code (unwrap_or o (default_code defaults layer key)) ≡ true
  default_or None layer key w h = default_code-is_code defaults layer key w
  default_or (Some c) layer key w h = h c refl

  pub entry_in-is_code : (format : ℕ) (words : List ℕ) (layer key : ℕ) → key < keys → is_code (entry_in defaults format words layer key) ≡ true
  unfolding entry_in changed
  entry_in-is_code format words layer key w =
      default_or (last_written defaults (commands_in format words) layer key) layer key w (λ c e. last_written-is_code format words layer key c w e)
