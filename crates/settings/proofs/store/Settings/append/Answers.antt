use Rattle.std.proofs.Common.{◌∙◌, ◌+◌, ap, inl, inr, length}
use Rattle.std.proofs.lemmas.Bool.{cases_lt}
use Rattle.page_turnover.proofs.Effects.{committed_rests}
use Rattle.settings.specs.Words.{words_of}
use Rattle.settings.proofs.Storing.{same_kept}
use Rattle.settings.proofs.Appending.{appending, the_change, one_is_change, goes_on, keeps_values, changes_values, refines_more, refines_rest, gives_more, gives_last}
use Rattle.settings.proofs.Cutting.{append_next, cut_append, is_fault}
use Rattle.settings.proofs.Known.{between_kept}
use Rattle.settings.proofs.Written.{writes_word, between_word}
use Rattle.settings.proofs.store.Settings.append.Goals as goal

pub returns-in-Committed-clause-refines : goal.returns-in-Committed-clause-refines
returns-in-Committed-clause-refines g c =
    let old = g.F.NorFlash.image c.args.flash.now in
    let new = g.F.NorFlash.image c.step.new.flash in
    let a = appending old c.args.changes.now _ c.args.at (rw (← c.self.view_is) at c.requires.refines) (rw (← c.self.view_is) at c.requires.job) in
    let e = the_change c.args.changes.now c.change-item.result a.change c.change-item.is a.one in
    let made = c.in-Committed.is in
    let ends = c.step.ensures.ends in
    elim (cases_lt (c.args.at + 1) (length (words_of c.change-item.result))) [
      | inl l ↦ refines_more new c.args.changes.now c.count.new.self c.step.new.self (c.args.at + 1) c.count.ensures.log (c.count.ensures.more l).1 ends.describes
          (goes_on old c.args.changes.now _ c.begin_append.new.self c.args.at c.word_at.result c.step.result new c.step.new.self a c.begin_append.ensures.pending (rw e at c.word_at.ensures.word) made ends (c.step.ensures.committed made) (rw e at l))
      | inr l ↦ refines_rest new c.args.changes.now c.count.new.self c.step.new.self c.count.ensures.log (c.count.ensures.last l).1 ends.describes (committed_rests old c.begin_append.new.self c.step.result new c.step.new.self made ends)
    ]

pub returns-in-Committed-clause-gives : goal.returns-in-Committed-clause-gives
returns-in-Committed-clause-gives g c =
    let old = g.F.NorFlash.image c.args.flash.now in
    let new = g.F.NorFlash.image c.step.new.flash in
    let a = appending old c.args.changes.now _ c.args.at (rw (← c.self.view_is) at c.requires.refines) (rw (← c.self.view_is) at c.requires.job) in
    let e = the_change c.args.changes.now c.change-item.result a.change c.change-item.is a.one in
    let w = rw e at c.word_at.ensures.word in
    let done = c.step.ensures.committed c.in-Committed.is in
    elim (cases_lt (c.args.at + 1) (length (words_of c.change-item.result))) [
      | inl l ↦ gives_more old c.args.changes.now c.count.result new (c.count.ensures.more l).0 (keeps_values old c.args.changes.now _ c.begin_append.new.self c.args.at c.word_at.result new a (ap (λ log. log.task) c.begin_append.ensures.pending) w done (rw e at l))
      | inr l ↦ gives_last old c.args.changes.now c.count.result new (c.count.ensures.last l).0 (changes_values old c.args.changes.now _ c.begin_append.new.self c.args.at c.word_at.result new a (ap (λ log. log.task) c.begin_append.ensures.pending) w done (rw e at l))
    ]

pub returns-in-Committed-clause-operation : goal.returns-in-Committed-clause-operation
returns-in-Committed-clause-operation g c =
    let old = g.F.NorFlash.image c.args.flash.now in
    let s = rw (← c.self.view_is) at c.requires.refines in
    let a = appending old c.args.changes.now _ c.args.at s (rw (← c.self.view_is) at c.requires.job) in
    let e = the_change c.args.changes.now c.change-item.result a.change c.change-item.is a.one in
    let t = ap (λ log. log.task) c.begin_append.ensures.pending in
    let next = append_next old c.begin_append.new.self c.word_at.result a.place t (ap (λ log. log.active) c.begin_append.ensures.pending ∙ a.is_active) in
    record {
      operation = _;
      made = c.step.ensures.operated next.operation next.is;
      cut = λ left i m. cut_append old c.args.changes.now c.begin_append.new.self next a.first a.change c.args.at c.word_at.result left (c.begin_append.ensures.describes old s.log_is) t (rw e at c.word_at.ensures.word) a.one (one_is_change old c.args.changes.now _ c.args.at a) a.words_are a.more i m;
    }

pub returns-in-Failed-clause-gives : goal.returns-in-Failed-clause-gives
returns-in-Failed-clause-gives g c = same_kept (g.F.NorFlash.image c.args.flash.now) (g.F.NorFlash.image c.step.new.flash) (c.step.ensures.ends.kept c.in-Failed.is)

pub returns-in-Failed-clause-operation : goal.returns-in-Failed-clause-operation
returns-in-Failed-clause-operation g c =
    let old = g.F.NorFlash.image c.args.flash.now in
    let s = rw (← c.self.view_is) at c.requires.refines in
    let a = appending old c.args.changes.now _ c.args.at s (rw (← c.self.view_is) at c.requires.job) in
    let e = the_change c.args.changes.now c.change-item.result a.change c.change-item.is a.one in
    let t = ap (λ log. log.task) c.begin_append.ensures.pending in
    let next = append_next old c.begin_append.new.self c.word_at.result a.place t (ap (λ log. log.active) c.begin_append.ensures.pending ∙ a.is_active) in
    record {
      operation = _;
      made = c.step.ensures.operated next.operation next.is;
      cut = λ left i m. cut_append old c.args.changes.now c.begin_append.new.self next a.first a.change c.args.at c.word_at.result left (c.begin_append.ensures.describes old s.log_is) t (rw e at c.word_at.ensures.word) a.one (one_is_change old c.args.changes.now _ c.args.at a) a.words_are a.more i m;
    }

pub returns-in-Committed-clause-writes : goal.returns-in-Committed-clause-writes
returns-in-Committed-clause-writes g c =
    let old = g.F.NorFlash.image c.args.flash.now in
    let new = g.F.NorFlash.image c.step.new.flash in
    let b = rw (← c.self.view_is) at c.requires.job in
    let a = appending old c.args.changes.now _ c.args.at (rw (← c.self.view_is) at c.requires.refines) b in
    let e = the_change c.args.changes.now c.change-item.result a.change c.change-item.is a.one in
    writes_word old c.args.changes.now _ c.begin_append.new.self _ c.args.at c.word_at.result c.count.result new _ c.requires.job a (ap (λ log. log.task) c.begin_append.ensures.pending) (rw e at c.word_at.ensures.word) (c.step.ensures.committed c.in-Committed.is)
    (rw e at c.count.ensures.more) (rw e at c.count.ensures.last)

pub returns-in-Committed-clause-between : goal.returns-in-Committed-clause-between
returns-in-Committed-clause-between g c =
    let old = g.F.NorFlash.image c.args.flash.now in
    let new = g.F.NorFlash.image c.step.new.flash in
    let a = appending old c.args.changes.now _ c.args.at (rw (← c.self.view_is) at c.requires.refines) (rw (← c.self.view_is) at c.requires.job) in
    let e = the_change c.args.changes.now c.change-item.result a.change c.change-item.is a.one in
    between_word old c.args.changes.now _ c.begin_append.new.self c.args.at c.word_at.result new a (ap (λ log. log.task) c.begin_append.ensures.pending) (rw e at c.word_at.ensures.word) (c.step.ensures.committed c.in-Committed.is) c.step.ensures.usable

pub returns-in-Failed-clause-between : goal.returns-in-Failed-clause-between
returns-in-Failed-clause-between g c = between_kept (g.F.NorFlash.image c.args.flash.now) c.args.changes.now (g.F.NorFlash.image c.step.new.flash) c.step.ensures.usable (c.step.ensures.ends.kept c.in-Failed.is)

pub returns-in-Failed-clause-fault : goal.returns-in-Failed-clause-fault
returns-in-Failed-clause-fault g c f =
    let n = g.F.NorFlash in
    let old = n.image c.args.flash.now in
    let a = appending old c.args.changes.now _ c.args.at (rw (← c.self.view_is) at c.requires.refines) (rw (← c.self.view_is) at c.requires.job) in
    let t = ap (λ log. log.task) c.begin_append.ensures.pending in
    let next = append_next old c.begin_append.new.self c.word_at.result a.place t (ap (λ log. log.active) c.begin_append.ensures.pending ∙ a.is_active) in
    is_fault n.image n.operations n.faults n.operates c.args.flash.now c.step.new.flash c.begin_append.new.self _ _ next c.step.ensures.attempts (c.step.ensures.operated next.operation next.is) c.step.ensures.counts c.in-Failed.is
