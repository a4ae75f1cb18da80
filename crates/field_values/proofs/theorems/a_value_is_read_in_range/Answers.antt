use Rattle.field_values.proofs.NullLemmas.{value_in_range}
use Rattle.field_values.proofs.theorems.a_value_is_read_in_range.Goals as goal

pub returns : goal.returns
returns c = value_in_range
