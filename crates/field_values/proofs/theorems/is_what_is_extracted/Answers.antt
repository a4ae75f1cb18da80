use Rattle.field_values.proofs.Reading.{extracted}
use Rattle.field_values.proofs.theorems.is_what_is_extracted.Goals as goal

pub returns : goal.returns
returns c = extracted
