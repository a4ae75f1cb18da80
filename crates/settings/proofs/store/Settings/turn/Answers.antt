use Rattle.std.proofs.Common.{refl}
use Rattle.page_turnover.specs.Next.{on_flash}
use Rattle.settings.specs.declared.store.Job.TheVariants.{Resting}
use Rattle.settings.proofs.Storing.{same_kept}
use Rattle.settings.proofs.Values.{are_values}
use Rattle.settings.proofs.Cutting.{turn_next, cut_turn, is_fault}
use Rattle.settings.proofs.Known.{between_kept}
use Rattle.settings.proofs.Written.{writes_moved, writes_turn, compacts, between_turned}
use Rattle.settings.proofs.Turning.{turning, turned_values, still_refines, moved_down, last_down, failed_down}
use Rattle.settings.proofs.store.Settings.turn.Goals as goal

pub returns-in-Moved-clause-refines : goal.returns-in-Moved-clause-refines
returns-in-Moved-clause-refines g c =
    let o = rw (← c.self.view_is) at c.offer_next.ensures in
    still_refines (g.F.NorFlash.image c.args.flash.now) c.args.changes.now _ _ c.step.result (g.F.NorFlash.image c.step.new.flash) _ o c.in-Moved.is c.step.ensures.ends (c.step.ensures.moved c.in-Moved.is) refl

pub returns-in-Moved-clause-gives : goal.returns-in-Moved-clause-gives
returns-in-Moved-clause-gives g c = same_kept (g.F.NorFlash.image c.args.flash.now) (g.F.NorFlash.image c.step.new.flash) (c.step.ensures.moved c.in-Moved.is).keeps

pub returns-in-Moved-clause-down : goal.returns-in-Moved-clause-down
returns-in-Moved-clause-down g c =
    let o = rw (← c.self.view_is) at c.offer_next.ensures in
    moved_down (g.F.NorFlash.image c.args.flash.now) c.args.changes.now _ _ c.args.from c.args.at c.step.result (g.F.NorFlash.image c.step.new.flash) _ c.requires.job o c.in-Moved.is c.step.ensures.ends (c.step.ensures.moved c.in-Moved.is).keeps refl

pub returns-in-Committed-clause-gives : goal.returns-in-Committed-clause-gives
returns-in-Committed-clause-gives g c =
    let old = g.F.NorFlash.image c.args.flash.now in
    let o = rw (← c.self.view_is) at c.offer_next.ensures in
    let j = turning old c.args.changes.now _ o.from o.at o.refines o.job in
    turned_values old c.args.changes.now _ o.from o.at (g.F.NorFlash.image c.step.new.flash) j (c.step.ensures.committed c.in-Committed.is)

pub returns-in-Committed-clause-down : goal.returns-in-Committed-clause-down
returns-in-Committed-clause-down g c =
    let o = rw (← c.self.view_is) at c.offer_next.ensures in
    last_down (g.F.NorFlash.image c.args.flash.now) c.args.changes.now _ _ c.args.from c.args.at c.step.result (g.F.NorFlash.image c.step.new.flash) _ c.requires.job o c.in-Committed.is c.step.ensures.ends

pub returns-in-Failed-clause-gives : goal.returns-in-Failed-clause-gives
returns-in-Failed-clause-gives g c = same_kept (g.F.NorFlash.image c.args.flash.now) (g.F.NorFlash.image c.step.new.flash) (c.step.ensures.ends.kept c.in-Failed.is)

pub returns-in-Failed-clause-down : goal.returns-in-Failed-clause-down
returns-in-Failed-clause-down g c =
    let o = rw (← c.self.view_is) at c.offer_next.ensures in
    failed_down (g.F.NorFlash.image c.args.flash.now) c.args.changes.now _ _ c.args.from c.args.at c.requires.job o

pub returns-in-Moved-clause-operation : goal.returns-in-Moved-clause-operation
returns-in-Moved-clause-operation g c =
    let old = g.F.NorFlash.image c.args.flash.now in
    let o = rw (← c.self.view_is) at c.offer_next.ensures in
    let j = turning old c.args.changes.now _ o.from o.at o.refines o.job in
    let next = turn_next old c.self.inside.log j.of_turn o.pending in
    record {
      operation = on_flash next.operation;
      made = c.step.ensures.operated next.operation next.is;
      cut = λ left i m. cut_turn old c.args.changes.now c.self.inside.log next left o.refines.log_is j.of_turn (are_values old c.args.changes.now j.are_changes) j.all i m;
    }

pub returns-in-Committed-clause-operation : goal.returns-in-Committed-clause-operation
returns-in-Committed-clause-operation g c =
    let old = g.F.NorFlash.image c.args.flash.now in
    let o = rw (← c.self.view_is) at c.offer_next.ensures in
    let j = turning old c.args.changes.now _ o.from o.at o.refines o.job in
    let next = turn_next old c.self.inside.log j.of_turn o.pending in
    record {
      operation = on_flash next.operation;
      made = c.step.ensures.operated next.operation next.is;
      cut = λ left i m. cut_turn old c.args.changes.now c.self.inside.log next left o.refines.log_is j.of_turn (are_values old c.args.changes.now j.are_changes) j.all i m;
    }

pub returns-in-Failed-clause-operation : goal.returns-in-Failed-clause-operation
returns-in-Failed-clause-operation g c =
    let old = g.F.NorFlash.image c.args.flash.now in
    let o = rw (← c.self.view_is) at c.offer_next.ensures in
    let j = turning old c.args.changes.now _ o.from o.at o.refines o.job in
    let next = turn_next old c.self.inside.log j.of_turn o.pending in
    record {
      operation = on_flash next.operation;
      made = c.step.ensures.operated next.operation next.is;
      cut = λ left i m. cut_turn old c.args.changes.now c.self.inside.log next left o.refines.log_is j.of_turn (are_values old c.args.changes.now j.are_changes) j.all i m;
    }

pub returns-in-Moved-clause-writes : goal.returns-in-Moved-clause-writes
returns-in-Moved-clause-writes g c =
    let o = rw (← c.self.view_is) at c.offer_next.ensures in
    writes_moved (g.F.NorFlash.image c.args.flash.now) c.args.changes.now _ c.args.from c.args.at (g.F.NorFlash.image c.step.new.flash) _ o.from o.at c.requires.job (c.step.ensures.moved c.in-Moved.is).keeps (c.step.ensures.operates (λ e. cc) (λ e. cc)) o.job

pub returns-in-Moved-clause-between : goal.returns-in-Moved-clause-between
returns-in-Moved-clause-between g c = between_kept (g.F.NorFlash.image c.args.flash.now) c.args.changes.now (g.F.NorFlash.image c.step.new.flash) c.step.ensures.usable (c.step.ensures.moved c.in-Moved.is).keeps

pub returns-in-Committed-clause-writes : goal.returns-in-Committed-clause-writes
returns-in-Committed-clause-writes g c =
    let old = g.F.NorFlash.image c.args.flash.now in
    let new = g.F.NorFlash.image c.step.new.flash in
    let o = rw (← c.self.view_is) at c.offer_next.ensures in
    let j = turning old c.args.changes.now _ o.from o.at o.refines o.job in
    writes_turn old c.args.changes.now _ c.args.from c.args.at new Resting c.requires.job (compacts old c.args.changes.now c.self.inside.log o.from o.at c.step.result new c.step.new.self j o.refines.log_is c.in-Committed.is c.step.ensures.ends (c.step.ensures.committed c.in-Committed.is))

pub returns-in-Committed-clause-between : goal.returns-in-Committed-clause-between
returns-in-Committed-clause-between g c =
    let old = g.F.NorFlash.image c.args.flash.now in
    let new = g.F.NorFlash.image c.step.new.flash in
    let o = rw (← c.self.view_is) at c.offer_next.ensures in
    let j = turning old c.args.changes.now _ o.from o.at o.refines o.job in
    let d = c.step.ensures.committed c.in-Committed.is in
    between_turned old c.args.changes.now c.self.inside.log o.from o.at new j d (compacts old c.args.changes.now c.self.inside.log o.from o.at c.step.result new c.step.new.self j o.refines.log_is c.in-Committed.is c.step.ensures.ends d) c.step.ensures.usable

pub returns-in-Failed-clause-between : goal.returns-in-Failed-clause-between
returns-in-Failed-clause-between g c = between_kept (g.F.NorFlash.image c.args.flash.now) c.args.changes.now (g.F.NorFlash.image c.step.new.flash) c.step.ensures.usable (c.step.ensures.ends.kept c.in-Failed.is)

pub returns-in-Failed-clause-fault : goal.returns-in-Failed-clause-fault
returns-in-Failed-clause-fault g c f =
    let n = g.F.NorFlash in
    let old = n.image c.args.flash.now in
    let o = rw (← c.self.view_is) at c.offer_next.ensures in
    let j = turning old c.args.changes.now _ o.from o.at o.refines o.job in
    let next = turn_next old c.self.inside.log j.of_turn o.pending in
    is_fault n.image n.operations n.faults n.operates c.args.flash.now c.step.new.flash c.self.inside.log _ _ next c.step.ensures.attempts (c.step.ensures.operated next.operation next.is) c.step.ensures.counts c.in-Failed.is
