use Rattle.std.proofs.Common.{◌≡◌, ◌∙◌, sym, ap, inl, inr}
use Rattle.hex.specs.Hex.{decode_of}
use Rattle.parse_lines.specs.HexTexts.{digits_of}
use Rattle.parse_lines.proofs.HexLemmas.{no_hex}
use Rattle.parse_lines.proofs.hex_text.bytes_of.Goals as goal

pub returns-clause-refused : goal.returns-clause-refused
returns-clause-refused c =
    let same : digits_of c.args.text.items ≡ c.as_slice.result.now = sym (c.as_slice.ensures.value ∙ c.without_blanks-digits.ensures) in
    elim c.in-Err.ensures.err [
      | inl memory ↦ absurd (c.in_default.not-OutOfMemory memory)
      | inr refused ↦ no_hex c.args.text.items c.in-Err.error (ap decode_of same ∙ refused)
    ]
