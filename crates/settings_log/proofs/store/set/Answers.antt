use Rattle.std.proofs.Common.{◌≤◌, arith, None, length, []}
use Rattle.std.proofs.lemmas.List.Elements.{All-cons, All-nil}
use Rattle.settings_log.specs.Changes.{IsShort, Holds}
use Rattle.settings_log.proofs.store.set.Goals as goal

pub returns-clause-too_long : goal.returns-clause-too_long
returns-clause-too_long g c long =
    c.transaction.ensures.too_long (λ all.
    let short : length c.args.bytes.now ≤ 1024 = all 0 (record { id = 0; value = None }) (omega arith) in
    omega (arith, long, short))

pub returns-clause-foreign : goal.returns-clause-foreign
returns-clause-foreign g c page foreign short =
    c.transaction.ensures.foreign page foreign (All-cons (λ change. IsShort change) _ [] short (All-nil (λ change. IsShort change)))

pub returns-clause-damaged : goal.returns-clause-damaged
returns-clause-damaged g c none broken short =
    c.transaction.ensures.damaged none broken (All-cons (λ change. IsShort change) _ [] short (All-nil (λ change. IsShort change)))

pub returns-clause-same : goal.returns-clause-same
returns-clause-same g c none whole short same =
    c.transaction.ensures.same none whole (All-cons (λ change. IsShort change) _ [] short (All-nil (λ change. IsShort change)))
    (All-cons (λ change. Holds (g.F.NorFlash.image c.args.flash.now) change) _ [] same (All-nil (λ change. Holds (g.F.NorFlash.image c.args.flash.now) change)))
