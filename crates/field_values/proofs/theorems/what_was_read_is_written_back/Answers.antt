use Rattle.field_values.proofs.Reading.{written_back}
use Rattle.field_values.proofs.theorems.what_was_read_is_written_back.Goals as goal

pub returns : goal.returns
returns c = written_back
