use Rattle.descriptor_parse.proofs.StackLemmas.{refine_new}
use Rattle.descriptor_parse.proofs.stack.Stack.new.Goals as goal

pub returns : goal.returns
returns g c = λ values now. refine_new values _ now c.new.ensures.items
