use Rattle.std.proofs.Common.{refl}
use Rattle.descriptor_parse.proofs.LocalLemmas.{refine_new}
use Rattle.descriptor_parse.proofs.locals.Locals.new.Goals as goal

pub returns : goal.returns
returns c = refine_new _ refl c.new.ensures.items
