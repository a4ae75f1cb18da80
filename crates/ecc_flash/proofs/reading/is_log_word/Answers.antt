use Rattle.std.proofs.Common.{rules, arith, ◌∙◌, sym}
use Rattle.ecc_flash.specs.Units.{IsEight}
use Rattle.ecc_flash.proofs.Words.{beside, not_beside, apart}
use Rattle.ecc_flash.proofs.reading.is_log_word.Goals as goal

pub returns-then-beside-word : goal.returns-then-beside-word
returns-then-beside-word c =
    let e : IsEight c.args.unit = record { eight = search rules; each = search rules } in
    beside c.args.unit e (omega (arith, c.from_le_bytes-word.ensures, c.from_le_bytes-beside.ensures, c.if-beside-word.true))

pub returns-else-beside-word : goal.returns-else-beside-word
returns-else-beside-word c =
    let e : IsEight c.args.unit = record { eight = search rules; each = search rules } in
    apart _ _ c.if-beside-word.false ∙ sym (not_beside c.args.unit e (λ s. c.if-beside-word.false (omega (arith, s, c.from_le_bytes-word.ensures, c.from_le_bytes-beside.ensures))))
