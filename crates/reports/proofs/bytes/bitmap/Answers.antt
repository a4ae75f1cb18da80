use Rattle.std.proofs.Common.{◌∙◌}
use Rattle.layers.specs.Usages.{has_key}
use Rattle.reports.proofs.InWords.{bitmap_size}
use Rattle.reports.proofs.bytes.bitmap.Goals as goal

pub returns : goal.returns
returns c = c.twenty_three.ensures.whole (rw c.bitmap.ensures (bitmap_size (has_key c.args.usages.now))) ∙ c.bitmap.ensures
