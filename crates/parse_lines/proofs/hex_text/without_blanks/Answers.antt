use Rattle.std.proofs.Common.{rules}
use Rattle.std.proofs.lemmas.Fn.{filter_same}
use Rattle.parse_lines.specs.HexTexts.{digits_of}
use Rattle.parse_lines.proofs.hex_text.without_blanks.Goals as goal

pub returns : goal.returns
unfolding digits_of
returns c = filter_same _ _ _ (λ x b f' k. search rules) _ _ c.retain.ensures.filtered
