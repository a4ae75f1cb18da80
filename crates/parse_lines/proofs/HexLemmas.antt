-- Texts that are no hex.
use Rattle.std.proofs.Common.{◌≡◌, ℕ, List, inl, inr, Err}
use Rattle.hex.specs.Hex.{decode_of}
use Rattle.hex.specs.declared.error.FromHexError.{FromHexError}
use Rattle.hex.proofs.HexLemmas.{decode_of-err}
use Rattle.parse_lines.specs.HexTexts.{digits_of, IsNoHex}

pub no_hex : (text : List ℕ) (e : FromHexError) → decode_of (digits_of text) ≡ Err e → IsNoHex text
no_hex text e is = elim (decode_of-err (digits_of text) e is) [
  | inl odd ↦ inl odd.0
  | inr bad ↦ inr (bad.0, bad.2, bad.3)
]
