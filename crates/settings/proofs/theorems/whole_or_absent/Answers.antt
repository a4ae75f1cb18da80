use Rattle.settings.proofs.Changes.{absent, whole}
use Rattle.settings.proofs.theorems.whole_or_absent.Goals as goal

pub returns-clause-absent : goal.returns-clause-absent
returns-clause-absent c = absent

pub returns-clause-whole : goal.returns-clause-whole
returns-clause-whole c = whole
