use Rattle.std.proofs.Common.{refl}
use Rattle.lenient_parse.specs.representation.Relation.{sizes_of}
use Rattle.lenient_parse.proofs.state.State.new.Goals as goal

pub returns-clause-refines : goal.returns-clause-refines
returns-clause-refines c = record { sizes = c.new.ensures sizes_of refl; leaving = c.next_is_data.ensures }
