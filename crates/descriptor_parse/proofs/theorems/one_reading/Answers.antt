use Rattle.descriptor_parse.specs.Faults.{all_items}
use Rattle.descriptor_parse.proofs.OneFault.{one_first}
use Rattle.descriptor_parse.proofs.ReadingLemmas.{same_fields}
use Rattle.descriptor_parse.proofs.theorems.one_reading.Goals as goal

pub returns-clause-fields : goal.returns-clause-fields
returns-clause-fields c text a b p q = same_fields (all_items text) a b p q

pub returns-clause-fault : goal.returns-clause-fault
returns-clause-fault c = one_first

pub returns-clause-either : goal.returns-clause-either
returns-clause-either c text e faultless first = faultless e.fault e.offset first.0
