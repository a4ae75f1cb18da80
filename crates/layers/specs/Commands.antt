-- Trusted: commands, how they are read, and the words that they are stored as.
use Rattle.std.specs.Prelude.{ℕ, ◌+◌, ◌*◌, ◌/◌, ◌%◌, ◌^◌, ◌<◌, ◌==◌, ◌&&◌, ◌||◌, not, Bool, nat_lt, nat_le, if◌then◌else◌, IsTrue, Option, None, Result, Ok, Err}
use Rattle.std.specs.Result.{result_ok}
use Rattle.layers.specs.Codes.{layers, keys, is_code, is_between}
use Rattle.layers.specs.declared.code.KeymapError.{KeymapError}
use Rattle.layers.specs.declared.code.KeymapError.TheVariants.{BadOperation, BadLayer, BadKey, BadCode}
use Rattle.layers.specs.declared.command.Command.{Command}
use Rattle.layers.specs.declared.command.Command.TheVariants.{SetKey, ResetLayer, ResetAll}

-- the parts of a command are what their types say
abbrev pub IsCommand : Command → Type 0
IsCommand (SetKey layer key code) = (layer < layers) × (key < keys) × IsTrue (is_code code)
IsCommand (ResetLayer layer) = layer < layers
IsCommand ResetAll = Unit {0}

-- operation 1 uses layer, key and code, 2 the layer, 3 none
abbrev pub command_with : ℕ → ℕ → ℕ → ℕ → Command
command_with op layer key code =
    if op == 1 then SetKey layer key code else (if op == 2 then ResetLayer layer else ResetAll)

-- the checks in their order; each is made only where the operation uses the number
abbrev pub command_read : ℕ → ℕ → ℕ → ℕ → Result Command KeymapError
command_read op layer key code =
    if not (is_between 1 3 op) then Err BadOperation
    else (if nat_le op 2 && not (nat_lt layer layers) then Err BadLayer
    else (if nat_le op 1 && not (nat_lt key keys) then Err BadKey
    else (if nat_le op 1 && not (is_code code) then Err BadCode
    else Ok (command_with op layer key code))))

-- the word of a command by its fields: operation, layer, key, code
abbrev pub word_with : ℕ → ℕ → ℕ → ℕ → ℕ
word_with op layer key code = 2 ^ 28 * op + 2 ^ 24 * layer + 2 ^ 16 * key + code

-- the word of a command; a field that its operation does not use is 0
abbrev pub word_of : Command → ℕ
word_of (SetKey layer key code) = word_with 1 layer key code
word_of (ResetLayer layer) = word_with 2 layer 0 0
word_of ResetAll = word_with 3 0 0 0

-- what the operation does not use is 0
abbrev pub unused_is_zero : ℕ → ℕ → ℕ → ℕ → Bool
unused_is_zero op layer key code = (nat_le op 2 || (layer == 0)) && (nat_le op 1 || ((key == 0) && (code == 0)))

-- the command of the fields of a word; none where they are of no command, or one that is not used is not 0
unfoldable pub command_of : ℕ → Option Command
command_of word =
    let op = word / 2 ^ 28 in
    let layer = word / 2 ^ 24 % 2 ^ 4 in
    let key = word / 2 ^ 16 % 2 ^ 8 in
    let code = word % 2 ^ 16 in
    if unused_is_zero op layer key code then result_ok (command_read op layer key code) else None
