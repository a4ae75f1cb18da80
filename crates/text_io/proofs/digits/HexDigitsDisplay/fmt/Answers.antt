use Rattle.std.proofs.Common.{rules, ◌<◌, get_or}
use Rattle.std.proofs.Output.{has_written_append, has_written_of_eq}
use Rattle.text_io.proofs.DigitLemmas.{in_hex-nil, in_hex_more}
use Rattle.text_io.proofs.digits.HexDigitsDisplay.fmt.Goals as goal

pub loop-byte-init : goal.loop-byte-init
loop-byte-init g c = rw in_hex-nil (search rules)

pub loop-byte-preserved : goal.loop-byte-preserved
loop-byte-preserved g c = λ plain.
    let small : get_or c.args.self.now.0.now c.loop-byte.byte-index 0 < 256 = search rules in
    has_written_of_eq _ _ _ _ _ (in_hex_more _ _ (search rules) small) (has_written_append _ _ _ _ _ _ (c.loop-byte.invariant plain) (search rules))
