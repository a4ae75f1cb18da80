use Rattle.field_values.proofs.Reading.{others_stay}
use Rattle.field_values.proofs.theorems.other_places_stay.Goals as goal

pub returns : goal.returns
returns c = others_stay
