use Rattle.std.proofs.Common.{◌∙◌, ap}
use Rattle.descriptor_parse.specs.Fields.{fields, field_usages}
use Rattle.host.proofs.BootLemmas.{boot-items}
use Rattle.world.proofs.Boot.{boot-fields, boot-usages, boot-faultless}
use Rattle.world.proofs.readings.boot_declares.Goals as goal

pub returns-clause-faultless : goal.returns-clause-faultless
returns-clause-faultless c = boot-faultless

pub returns-clause-fields : goal.returns-clause-fields
returns-clause-fields c = ap fields boot-items ∙ boot-fields

pub returns-clause-usages : goal.returns-clause-usages
returns-clause-usages c = ap field_usages boot-items ∙ boot-usages
