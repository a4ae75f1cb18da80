use Rattle.std.proofs.Common.{refl}
use Rattle.host_extract.proofs.NumberLemmas.{number-one}
use Rattle.report_write.proofs.place.is_set.Goals as goal

pub returns : goal.returns
returns c = rw (c.number_at.ensures, c.first_bit.ensures, number-one _ _ 1 refl) refl
