use Rattle.std.proofs.Common.{◌∙◌, sym}
use Rattle.records.proofs.SlotLemmas.{first_is}
use Rattle.page_turnover.proofs.GoodSlots.{word_of_half}
use Rattle.page_turnover.proofs.words.first_half.Goals as goal

pub returns : goal.returns
returns c = word_of_half c.args.bytes c.from_le_bytes.result c.requires (c.from_le_bytes.ensures ∙ sym (first_is c.args.bytes))
