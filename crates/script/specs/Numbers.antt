-- Trusted: what a word of digits writes.
use Rattle.shapes.specs.Shapes.{Bytes}
use Rattle.std.specs.Prelude.{◌≡◌, ℕ, ◌*◌, ◌<◌, ◌≤◌, length, Ok}
use Rattle.std.specs.List.{AllPass}
use Rattle.std.specs.Str.Parse.{IsNumeral, digits_value}
use Rattle.hex.specs.Hex.{decode_of, is_hex_digit}

-- the word is the number n in 1 to 5 decimal digits
abbrev pub WritesNumber : Bytes → ℕ → Type 0
WritesNumber word n = IsNumeral 10 word × (length word ≤ 5) × (digits_value 10 word ≡ n)

-- the word is a number below a bound
abbrev pub IsNumberBelow : ℕ → Bytes → Type 0
IsNumberBelow bound word = IsNumeral 10 word × (length word ≤ 5) × (digits_value 10 word < bound)

-- the word is a number of scans, 1 to 10,000
abbrev pub IsCount : Bytes → Type 0
IsCount word = IsNumberBelow 10001 word × (0 < digits_value 10 word)

-- the word is these bytes in hex, two digits a byte, in either case
abbrev pub WritesBytes : Bytes → Bytes → Type 0
WritesBytes word bytes = decode_of word ≡ Ok bytes

-- the word is `least` to `most` bytes in hex
pub record IsHexOf (least most : ℕ) (word : Bytes) : Type 0 where
  pub count : ℕ
  pub pairs : length word ≡ 2 * count
  pub enough : least ≤ count
  pub no_more : count ≤ most
  pub digits : AllPass is_hex_digit word
