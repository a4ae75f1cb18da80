use Rattle.std.proofs.Common.{refl}
use Rattle.std.proofs.lemmas.Bool.{iff_false}
use Rattle.settings.proofs.Whole.{so_far_none, so_far_more, stores_all, stores_none, stores_nothing, count_all}
use Rattle.settings.proofs.Written.{written_all}
use Rattle.settings.proofs.store.Settings.transaction.Goals as goal

pub returns-in-Err-clause-stores : goal.returns-in-Err-clause-stores
returns-in-Err-clause-stores g c =
    let f = g.F.NorFlash in
    stores_nothing f.image f.operations f.faults f.operates f.is_faultless c.args.changes.now c.in-Err.why c.args.flash.now c.in-Err.ensures.refused

pub loop-self-init : goal.loop-self-init
loop-self-init g c =
    let f = g.F.NorFlash in
    so_far_none f.image f.operations f.operates f.is_faultless c.args.changes.now c.args.flash.now c.begin.new.self c.begin.ensures.refines (c.in_default.ensures.busy.0 refl) (c.in_default.ensures.goes_to refl) (c.in_default.ensures.needs refl)

pub loop-self-preserved : goal.loop-self-preserved
loop-self-preserved g c =
    let f = g.F.NorFlash in
    let e = c.fails.ensures in
    so_far_more f.image f.operations f.operates f.is_faultless c.args.changes.now c.fails.result _ _ c.args.flash.now c.loop-self.self c.loop-self.flash c.fails.new.self c.fails.new.flash c.loop-self.invariant (c.busy.ensures.0 c.loop-self-test.true) e.makes e.refines c.if-fails.false
    e.kept (e.stored c.if-fails.false) e.more (e.last c.if-fails.false)

pub returns-then-fails-clause-stores : goal.returns-then-fails-clause-stores
returns-then-fails-clause-stores g c =
    let f = g.F.NorFlash in
    let e = c.fails.ensures in
    stores_none f.image f.operations f.faults f.operates f.is_faultless c.args.changes.now c.fails.result _ _ c.args.flash.now c.loop-self.self c.loop-self.flash c.fails.new.flash c.loop-self.invariant (c.busy.ensures.0 c.loop-self-test.true) e.makes c.if-fails.true (e.failed c.if-fails.true) (e.fault c.if-fails.true)

pub returns-clause-stores : goal.returns-clause-stores
returns-clause-stores g c =
    let f = g.F.NorFlash in
    stores_all f.image f.operations f.faults f.operates f.is_faultless c.args.changes.now _ _ c.args.flash.now c.loop-self.self c.loop-self.flash c.loop-self.invariant (iff_false c.busy.ensures c.loop-self-test.false)

pub returns-clause-written : goal.returns-clause-written
returns-clause-written g c ok =
    let f = g.F.NorFlash in
    written_all (f.image c.args.flash.now) c.args.changes.now c.loop-self.self.job (f.image c.loop-self.flash) c.loop-self.invariant.written (iff_false c.busy.ensures c.loop-self-test.false)

pub returns-clause-count : goal.returns-clause-count
returns-clause-count g c ok =
    let f = g.F.NorFlash in
    count_all f.image f.operations f.operates f.is_faultless c.args.changes.now c.args.flash.now c.loop-self.self c.loop-self.flash c.loop-self.invariant (iff_false c.busy.ensures c.loop-self-test.false)
