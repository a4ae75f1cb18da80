-- Trusted: what a text of hex digits says.
use Rattle.shapes.specs.Shapes.{Bytes}
use Rattle.std.specs.Prelude.{◌≡◌, ℕ, ◌%◌, ◌<◌, ◌==◌, ◌||◌, ◌⊎◌, not, Bool, false, length, filter, slice_index, Ok}
use Rattle.hex.specs.Hex.{decode_of, is_hex_digit}
use Rattle.parse_lines.specs.declared.fault.LinesError.{LinesError}
use Rattle.parse_lines.specs.declared.fault.LinesError.TheVariants as error

-- a space, a tab, CR or LF
abbrev pub is_blank : ℕ → Bool
is_blank c = (c == 32) || ((c == 9) || ((c == 13) || (c == 10)))

-- the characters that are no blanks
unfoldable pub digits_of : Bytes → Bytes
digits_of text = filter (λ c. not (is_blank c)) text

-- the text says these bytes, two digits a byte, in either case
abbrev pub SaysBytes : Bytes → Bytes → Type 0
SaysBytes text bytes = decode_of (digits_of text) ≡ Ok bytes

-- an odd number of digits, or a character that is no digit
abbrev pub IsNoHex : Bytes → Type 0
IsNoHex text =
    (length (digits_of text) % 2 ≡ 1)
    ⊎ ((i : ℕ) × (i < length (digits_of text)) × (is_hex_digit (slice_index (digits_of text) i) ≡ false))

-- why a text says no bytes; room is asked for pairs of digits alone
abbrev pub IsHexFault : Bytes → LinesError → Type 0
IsHexFault text error.BadHexText = IsNoHex text
IsHexFault text error.Memory = length (digits_of text) % 2 ≡ 0
IsHexFault text _ = ⊥
