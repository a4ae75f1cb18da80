-- Words of digits.
use Rattle.std.proofs.lemmas.Grind.{common_steps}
use Rattle.std.proofs.Common.{◌≡◌, ℕ, ◌*◌, inl, inr, List, length, ◌∙◌, arith, Result, Ok, Err}
use Rattle.std.proofs.lemmas.Bool.{cases_lt}
use Rattle.std.proofs.lemmas.List.{get_or_past}
use Rattle.std.proofs.lemmas.Str.{IsUtf8-from_ascii}
use Rattle.std.proofs.lemmas.Str.Parse.{digit_at}
use Rattle.std.specs.Prelude.{IsOk, IsUtf8, MatchResult}
use Rattle.std.specs.Str.Parse.{AllDigits}
use Rattle.hex.specs.Hex.{decode_sized, decode_of}
use Rattle.hex.specs.declared.error.FromHexError.{FromHexError}
use Rattle.hex.proofs.HexLemmas.{decode_of-ok, IsOk-decode_sized, IsOk-written}
use Rattle.script.specs.Numbers.{IsHexOf}
use Rattle.std.proofs.Common.{◌<◌, ◌≤◌}

-- digits are text
pub IsUtf8-digits : (word : List ℕ) → AllDigits 10 word → IsUtf8 word
IsUtf8-digits word digits = IsUtf8-from_ascii word (λ i. elim (cases_lt i (length word)) [
  | inl l ↦ let h = digit_at word i digits l in omega (arith, h)
  | inr l ↦ rw (get_or_past word i 0 l) (omega arith)
])

-- a word of so many bytes in hex is not refused
pub refused_hex : (count : ℕ) (word : List ℕ) (e : FromHexError) → decode_sized word count ≡ Err e
    → length word ≡ 2 * count → (least most : ℕ) → IsHexOf least most word → ⊥
refused_hex count word e is same least most h =
    let ok : IsOk (decode_sized word count) = (IsOk-decode_sized word count).1 (same, h.digits) in
    let wrong = rw is at ok in
    cc wrong

-- the same, where the bytes were to go into a slice
pub refused_slice : (count : ℕ) (word out : List ℕ) (e : FromHexError) (r : Result Unit FromHexError) → r ≡ Err e
    → MatchResult (decode_sized word count) (λ bytes. (r ≡ Ok tt) × (out ≡ bytes)) (λ e. r ≡ Err e)
    → length word ≡ 2 * count → (least most : ℕ) → IsHexOf least most word → ⊥
refused_slice count word out e r is value same least most h =
    let ok : IsOk r = (IsOk-written (decode_sized word count) r out value).1 ((IsOk-decode_sized word count).1 (same, h.digits)) in
    let wrong = rw is at ok in
    cc wrong

-- what writes some bytes is hex
pub hex_of : (word bytes : List ℕ) (most : ℕ) → decode_of word ≡ Ok bytes → 0 < length bytes → length bytes ≤ most → IsHexOf 1 most word
hex_of word bytes most h1 h2 h3 = grind (arith, common_steps, decode_of-ok)
