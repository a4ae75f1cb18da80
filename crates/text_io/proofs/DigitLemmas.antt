-- Bytes in hex, one by one.
use Rattle.std.proofs.Common.{◌≡◌, ℕ, ◌+◌, ◌-◌, ◌^◌, ◌<◌, false, List, [], ◌++◌, length, take, get_or, refl}
use Rattle.std.proofs.lemmas.Fmt.{hex_byte}
use Rattle.std.proofs.lemmas.List.{take_more, flat_map_more}
use Rattle.std.specs.Fmt.{digits, format_spec, padded_integral}
use Rattle.text_io.specs.Digits.{byte_in_hex, in_hex}

pub in_hex-nil : in_hex [] ≡ []
unfolding in_hex
in_hex-nil = refl

-- one byte more
pub in_hex_more : (xs : List ℕ) (i : ℕ) → i < length xs → get_or xs i 0 < 256
    → in_hex (take i xs) ++ padded_integral (format_spec 32 0 4 2 (2 ^ 64 - 1)) false [] (digits 16 false (get_or xs i 0)) ≡ in_hex (take (i + 1) xs)
unfolding in_hex
in_hex_more xs i l small =
    rw (take_more xs i 0 l, hex_byte false (get_or xs i 0) small) (flat_map_more byte_in_hex [] (take i xs) (get_or xs i 0))
