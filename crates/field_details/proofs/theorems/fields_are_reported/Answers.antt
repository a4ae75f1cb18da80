use Rattle.field_details.proofs.FieldLemmas.{are_reported}
use Rattle.field_details.proofs.theorems.fields_are_reported.Goals as goal

pub returns : goal.returns
returns c = are_reported
