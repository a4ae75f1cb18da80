use Rattle.std.proofs.Common.{arith}
use Rattle.layers.specs.Usages.{has_key}
use Rattle.reports.proofs.InWords.{bitmap_is, cut_is, bitmap_words}
use Rattle.reports.proofs.input_report.InputReport.bitmap.Goals as goal

pub returns : goal.returns
returns c =
    let keys = c.key_words.result.now in
    bitmap_is keys _ (has_key c.args.usages.now) c.modifiers.result (cut_is keys)
    (bitmap_words keys c.modifiers.result _ _ _ _ _ _ c.first_word.ensures c.across.ensures c.across-2.ensures c.across-3.ensures c.across-4.ensures c.across-5.ensures
    (omega arith) (omega arith) (omega arith) (omega arith) (omega arith))
    c.modifiers.type_inv c.key_words.ensures.bits c.modifiers.ensures
