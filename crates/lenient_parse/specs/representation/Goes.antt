-- Representation: the output so far, and what the items to come add to it.
use Rattle.std.specs.Prelude.{◌≡◌, List, [], ◌++◌, None}
use Rattle.descriptor_parse.specs.Items.{ItemValue}
use Rattle.lenient_parse.specs.declared.output.Output.{Output}
use Rattle.lenient_parse.specs.declared.state.State.{State}
use Rattle.lenient_parse.specs.Late.{has_id}
use Rattle.lenient_parse.specs.Lenient.{text_from, origins_from, passed_from}
use Rattle.lenient_parse.specs.representation.Relation.{Relation, AreShort}

pub record Goes (items rest : List ItemValue) (output : Output) (state : State) : Type 0 where
  pub before : List ItemValue
  pub refines : Relation before rest state
  pub short : AreShort rest
  pub text : output.text.items ++ text_from state.late state.set before rest ≡ text_from (has_id items) None [] items
  pub origins : output.origins.items ++ origins_from state.late state.set before rest ≡ origins_from (has_id items) None [] items
  pub passed : output.passed.items ++ passed_from state.late state.set before rest ≡ passed_from (has_id items) None [] items
