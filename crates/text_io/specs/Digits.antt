-- Trusted: bytes and numbers in hex, as they are printed.
use Rattle.shapes.specs.Shapes.{Bytes}
use Rattle.std.specs.Prelude.{ℕ, ◌/◌, ◌%◌, ◌^◌, false, [], ◌∷◌}
use Rattle.std.specs.List.{flat_map}
use Rattle.std.specs.Fmt.{digit_glyph}

-- a byte in hex: two digits in lower case
abbrev pub byte_in_hex : ℕ → Bytes
byte_in_hex b = digit_glyph false (b / 16) ∷ digit_glyph false (b % 16) ∷ []

-- bytes in hex, one after the other
unfoldable pub in_hex : Bytes → Bytes
in_hex bytes = flat_map byte_in_hex bytes

-- a number of 32 bits in hex: eight digits
abbrev pub word_in_hex : ℕ → Bytes
word_in_hex word = in_hex (word / 2 ^ 24 ∷ word / 2 ^ 16 % 256 ∷ word / 2 ^ 8 % 256 ∷ word % 256 ∷ [])
