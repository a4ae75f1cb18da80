use Rattle.std.proofs.Common.{sym, ◌∙◌}
use Rattle.descriptor_parse.proofs.TagLemmas.{tag_quarter}
use Rattle.descriptor_parse.proofs.tag.Tag.of.Goals as goal

pub returns : goal.returns
returns c = c.of_quarter.ensures ∙ sym (tag_quarter c.args.prefix)
