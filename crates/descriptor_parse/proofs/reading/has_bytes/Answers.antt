use Rattle.std.proofs.Common.{rules}
use Rattle.descriptor_parse.proofs.reading.has_bytes.Goals as goal

pub returns : goal.returns
returns c = search rules
