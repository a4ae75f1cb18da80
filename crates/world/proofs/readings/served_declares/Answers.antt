use Rattle.std.proofs.Common.{◌∙◌, ap}
use Rattle.descriptor_parse.specs.Fields.{fields, field_usages}
use Rattle.world.proofs.Served.{served-items, served-fields, served-usages, served-faultless, served-length}
use Rattle.world.proofs.readings.served_declares.Goals as goal

pub returns-clause-size : goal.returns-clause-size
returns-clause-size c = served-length

pub returns-clause-faultless : goal.returns-clause-faultless
returns-clause-faultless c = served-faultless

pub returns-clause-fields : goal.returns-clause-fields
returns-clause-fields c = ap fields served-items ∙ served-fields

pub returns-clause-usages : goal.returns-clause-usages
returns-clause-usages c = ap field_usages served-items ∙ served-usages
