use Rattle.records.proofs.SlotLemmas.{good_within}
use Rattle.records.proofs.theorems.torn_erase.Goals as goal

pub returns-clause-good : goal.returns-clause-good
returns-clause-good c x y word sx sy s w e = good_within x y word sx sy s w e
