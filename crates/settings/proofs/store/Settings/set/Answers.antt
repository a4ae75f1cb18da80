use Rattle.settings.proofs.Whole.{never_long}
use Rattle.settings.proofs.store.Settings.set.Goals as goal

pub returns-in-Some-clause-stores : goal.returns-in-Some-clause-stores
returns-in-Some-clause-stores g c l = rw c.in-Some.ensures.some at c.store.ensures.stores

pub returns-in-Some-clause-same : goal.returns-in-Some-clause-same
returns-in-Some-clause-same g c = rw c.in-Some.ensures.some at c.store.ensures.same

pub returns-in-Some-clause-written : goal.returns-in-Some-clause-written
returns-in-Some-clause-written g c = rw c.in-Some.ensures.some at c.store.ensures.written

pub returns-in-Some-clause-count : goal.returns-in-Some-clause-count
returns-in-Some-clause-count g c = rw c.in-Some.ensures.some at c.store.ensures.count

pub returns-in-None-clause-same : goal.returns-in-None-clause-same
returns-in-None-clause-same g c e =
    let l = never_long (g.F.NorFlash.image c.args.flash.now) c.args.id c.args.bytes.now e in
    let fits = c.in-None.ensures.fits.1 l in
    let f : ⊥ = cc in
    absurd f
