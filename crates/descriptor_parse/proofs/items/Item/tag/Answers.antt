use Rattle.std.proofs.Common.{rules}
use Rattle.descriptor_parse.proofs.items.Item.tag.Goals as goal

pub returns : goal.returns
returns c = search rules
