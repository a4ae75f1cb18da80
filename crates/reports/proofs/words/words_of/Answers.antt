use Rattle.reports.proofs.InWords.{from_six}
use Rattle.reports.proofs.words.words_of.Goals as goal

pub returns : goal.returns
returns c = from_six c.args.bytes.now _ _ _ _ _ _ c.requires c.word_at.ensures c.word_at-2.ensures c.word_at-3.ensures c.word_at-4.ensures c.word_at-5.ensures c.word_at-6.ensures
