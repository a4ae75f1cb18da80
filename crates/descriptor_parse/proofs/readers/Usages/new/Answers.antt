use Rattle.std.proofs.Common.{refl}
use Rattle.descriptor_parse.specs.Descriptor.{count_up}
use Rattle.descriptor_parse.proofs.readers.Usages.new.Goals as goal

pub returns : goal.returns
unfolding count_up
returns c = refl
