use Rattle.std.proofs.Common.{[]}
use Rattle.std.proofs.lemmas.List.Elements.{All-cons, All-nil}
use Rattle.settings_log.specs.Changes.{IsShort, Holds}
use Rattle.settings_log.proofs.store.remove.Goals as goal

pub returns-clause-foreign : goal.returns-clause-foreign
returns-clause-foreign g c page foreign =
    c.transaction.ensures.foreign page foreign (All-cons (λ change. IsShort change) _ [] tt (All-nil (λ change. IsShort change)))

pub returns-clause-damaged : goal.returns-clause-damaged
returns-clause-damaged g c none broken =
    c.transaction.ensures.damaged none broken (All-cons (λ change. IsShort change) _ [] tt (All-nil (λ change. IsShort change)))

pub returns-clause-same : goal.returns-clause-same
returns-clause-same g c none whole same =
    c.transaction.ensures.same none whole (All-cons (λ change. IsShort change) _ [] tt (All-nil (λ change. IsShort change)))
    (All-cons (λ change. Holds (g.F.NorFlash.image c.args.flash.now) change) _ [] same (All-nil (λ change. Holds (g.F.NorFlash.image c.args.flash.now) change)))
