use Rattle.std.proofs.Common.{refl}
use Rattle.descriptor_parse.proofs.StackLemmas.{refine_push}
use Rattle.descriptor_parse.proofs.stack.Stack.save.Goals as goal

pub returns : goal.returns
returns g c = λ values before item same e s. refine_push values before item _ _ same e refl c.in_ok-push.ensures.items s
