use Rattle.std.proofs.lemmas.Bool.{iff_false}
use Rattle.settings.proofs.Whole.{stores_same}
use Rattle.settings.proofs.store.Settings.store.Goals as goal

pub returns-then-holds-clause-stores : goal.returns-then-holds-clause-stores
returns-then-holds-clause-stores g c =
    let f = g.F.NorFlash in
    stores_same f.image f.operations f.faults f.operates f.is_faultless c.args.change _ c.args.flash.now (c.holds.ensures.0 c.if-holds.true)

pub returns-then-holds-clause-written : goal.returns-then-holds-clause-written
returns-then-holds-clause-written g c n ok = absurd (n (c.holds.ensures.0 c.if-holds.true))

pub returns-then-holds-clause-count : goal.returns-then-holds-clause-count
returns-then-holds-clause-count g c n ok = absurd (n (c.holds.ensures.0 c.if-holds.true))

pub returns-clause-same : goal.returns-clause-same
returns-clause-same g c e = absurd (iff_false c.holds.ensures c.if-holds.false e)
