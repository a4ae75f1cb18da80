use Rattle.std.proofs.Common.{sym, ◌∙◌, arith}
use Rattle.host_extract.proofs.NumberLemmas.{number-byte}
use Rattle.host_extract.proofs.number.byte_or_number_at.Goals as goal

pub returns-then-bit-eq0 : goal.returns-then-bit-eq0
returns-then-bit-eq0 c = c.byte_at.ensures
    ∙ sym (number-byte c.args.bytes.now c.args.bit c.args.size c.if-size-eq8.true c.if-bit-eq0.true (λ k. omega (arith, c.type_inv.bytes k)))
