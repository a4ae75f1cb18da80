use Rattle.std.proofs.Common.{refl, arith}
use Rattle.descriptor_parse.specs.Globals.{signed}
use Rattle.descriptor_parse.specs.representation.GlobalsOf.{globals_of}
use Rattle.descriptor_parse.proofs.state.State.new.Goals as goal

pub returns : goal.returns
unfolding signed
returns c = record { globals = c.new.ensures globals_of refl; locals = c.new-2.ensures; reports = c.new-3.ensures; collections = refl; balanced = omega (arith) }
