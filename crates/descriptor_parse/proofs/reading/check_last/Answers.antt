use Rattle.std.proofs.Common.{◌∙◌, sym}
use Rattle.descriptor_parse.proofs.ReadingLemmas.{last_item, last_clean}
use Rattle.descriptor_parse.proofs.reading.check_last.Goals as goal

pub returns-in-Some : goal.returns-in-Some
returns-in-Some c = λ text rest a f past. last_item text rest _ _ _ c.args.offset a f (λ before st. sym (c.check.ensures before st) ∙ c.in-Some.is)

pub returns-in-None : goal.returns-in-None
returns-in-None c = λ text rest a f past. last_clean text rest _ _ c.args.offset a f past (λ before st. sym (c.check.ensures before st) ∙ c.in-None.is)
