use Rattle.records.proofs.ReadBack.{good_is_programmed, programmed_is_good, free_is_erased, erased_is_free}
use Rattle.records.proofs.theorems.read_back.Goals as goal

pub returns-clause-program : goal.returns-clause-program
returns-clause-program c old new page slot word w io inew l m free t =
    (λ e. good_is_programmed old new page slot word io inew l m free t e, λ h. programmed_is_good old new page slot word w io inew l m free h)

pub returns-clause-erase : goal.returns-clause-erase
returns-clause-erase c old new page inew l t =
    (λ free. free_is_erased old new page inew l t free, λ h s m. erased_is_free old new page h s m)
