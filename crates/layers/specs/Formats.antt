-- Trusted: the two formats of pages: how their words stand for commands.
use Rattle.std.specs.Prelude.{ℕ, ◌+◌, ◌-◌, ◌*◌, ◌/◌, ◌%◌, ◌^◌, ◌==◌, ◌&&◌, not, if◌then◌else◌, Option, Some, None, List, [], ◌∷◌, slice_index}
use Rattle.std.specs.Option.{option_map, option_and_then}
use Rattle.layers.specs.Codes.{is_between, is_code, is_consumer}
use Rattle.layers.specs.Commands.{command_of}
use Rattle.layers.specs.declared.command.Command.{Command}

-- the usages of page 0Ch that format 1 has codes for, in the order of their codes
abbrev pub consumer_list : List ℕ
consumer_list =
    0xB0 ∷ 0xB1 ∷ 0xB2 ∷ 0xB3 ∷ 0xB4 ∷ 0xB5 ∷ 0xB6 ∷ 0xB7 ∷ 0xB8 ∷ 0xCD ∷ 0xE2 ∷ 0xE9 ∷ 0xEA ∷ 0x192 ∷ 0x223 ∷ 0x224 ∷ []

-- what a code of format 1 is in format 2: 4000h to 400Fh stand for the usages of the list, there are no other codes of
-- consumer usages, and all other codes are the same
abbrev pub code_of_format_1 : ℕ → Option ℕ
code_of_format_1 code =
    if is_between 0x4000 0x400F code then Some (0x4000 + slice_index consumer_list (code - 0x4000))
    else (if is_code code && not (is_consumer code) then Some code else None)

-- a word of format 1 in format 2: the code in its low half is the one that differs
abbrev pub word_of_format_1 : ℕ → Option ℕ
word_of_format_1 word = option_map (λ code. 2 ^ 16 * (word / 2 ^ 16) + code) (code_of_format_1 (word % 2 ^ 16))

-- the command that a word stands for on a page of format 1
unfoldable pub command_of_format_1 : ℕ → Option Command
command_of_format_1 word = option_and_then command_of (word_of_format_1 word)

-- the command that a word stands for on a page of this format, 1 or 2
abbrev pub command_by_format : ℕ → ℕ → Option Command
command_by_format format word = if format == 1 then command_of_format_1 word else command_of word
