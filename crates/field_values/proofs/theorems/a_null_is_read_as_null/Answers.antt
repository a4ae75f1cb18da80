use Rattle.field_values.proofs.NullLemmas.{read_as_null}
use Rattle.field_values.proofs.theorems.a_null_is_read_as_null.Goals as goal

pub returns : goal.returns
returns c = read_as_null
