use Rattle.std.proofs.Common.{refl, sym, ◌∙◌, inl}
use Rattle.keymap_store.proofs.Working.{appended, appending, failed}
use Rattle.keymap_store.proofs.Ordering.{settled_order, failed_order}
use Rattle.keymap_store.proofs.Short.{record_short}
use Rattle.keymap_store.proofs.Stepped.{append_next, append_settled, append_failed, append_writes, append_fails}
use Rattle.keymap_store.proofs.store.StoreOf.append.Goals as goal

pub returns-in-Committed-clause-leaves : goal.returns-in-Committed-clause-leaves
returns-in-Committed-clause-leaves g c =
    let old = g.F.NorFlash.image c.args.flash.now in
    let new = g.F.NorFlash.image c.step_append.new.flash in
    let m = rw (← c.self.view_is) at c.requires.mirrors in
    let j = rw (← c.self.view_is) at c.requires.job in
    let made = c.in-Committed.is in
    let commits = c.step_append.ensures.steps.committed made in
    rw (← c.self.view_is) (record {
      mirrors = appended g.D.Defaults.defaults old _ c.args.command c.step_append.result new c.step_append.new.self c.apply.new.self m j made c.step_append.ensures.steps.ends commits (rw c.command.ensures at c.apply.ensures.refines);
      works = record { command = c.args.command; was = rw j refl; done = refl; changes = λ entries h. rw c.command.ensures at (c.apply.ensures.entries entries h) };
      attempts = append_settled g.D.Defaults.defaults old _ c.args.command c.step_append.result new m j c.step_append.ensures.steps.attempts made;
      writes = append_writes g.D.Defaults.defaults old _ c.args.command c.step_append.result new c.step_append.new.self m j made c.step_append.ensures.steps.ends commits;
      operates = λ idle failed. c.step_append.ensures.steps.operates (λ e. cc);
      torn = λ f. cc;
      sound = λ u. c.step_append.ensures.steps.usable;
    })

pub returns-in-Failed-clause-leaves : goal.returns-in-Failed-clause-leaves
returns-in-Failed-clause-leaves g c =
    let old = g.F.NorFlash.image c.args.flash.now in
    let new = g.F.NorFlash.image c.step_append.new.flash in
    let m = rw (← c.self.view_is) at c.requires.mirrors in
    let j = rw (← c.self.view_is) at c.requires.job in
    let fails = c.in-Failed.is in
    rw (← c.self.view_is) (record {
      mirrors = failed g.D.Defaults.defaults old _ _ c.step_append.result new c.step_append.new.self m fails c.step_append.ensures.steps.ends;
      works = record { some = rw j refl; gone = refl; same_keymap = refl };
      attempts = append_failed g.D.Defaults.defaults old _ c.args.command c.step_append.result new m j c.step_append.ensures.steps.attempts fails;
      writes = append_fails g.D.Defaults.defaults old _ c.args.command c.step_append.result new c.step_append.new.self m j fails c.step_append.ensures.steps.ends c.step_append.ensures.steps.attempts;
      operates = λ idle failed. absurd (failed refl);
      torn = λ f. c.step_append.ensures.steps.torn fails;
      sound = λ u. c.step_append.ensures.steps.usable;
    })

pub returns-in-Committed-clause-operated : goal.returns-in-Committed-clause-operated
returns-in-Committed-clause-operated g c operation e =
    let old = g.F.NorFlash.image c.args.flash.now in
    let next = append_next g.D.Defaults.defaults old _ c.args.command (rw (← c.self.view_is) at c.requires.mirrors) (rw (← c.self.view_is) at c.requires.job) in
    c.step_append.ensures.operated operation (sym next ∙ rw (← c.self.view_is) at e)

pub returns-in-Failed-clause-operated : goal.returns-in-Failed-clause-operated
returns-in-Failed-clause-operated g c operation e =
    let old = g.F.NorFlash.image c.args.flash.now in
    let next = append_next g.D.Defaults.defaults old _ c.args.command (rw (← c.self.view_is) at c.requires.mirrors) (rw (← c.self.view_is) at c.requires.job) in
    c.step_append.ensures.operated operation (sym next ∙ rw (← c.self.view_is) at e)

pub returns-in-Committed-clause-order : goal.returns-in-Committed-clause-order
returns-in-Committed-clause-order g c =
    rw (← c.self.view_is) (settled_order g.D.Defaults.defaults (g.F.NorFlash.image c.args.flash.now) _ c.args.command (rw (← c.self.view_is) at c.requires.mirrors) (rw (← c.self.view_is) at c.requires.job))

pub returns-in-Failed-clause-order : goal.returns-in-Failed-clause-order
returns-in-Failed-clause-order g c = failed_order _

pub returns-in-Committed-clause-faultless : goal.returns-in-Committed-clause-faultless
returns-in-Committed-clause-faultless g c n f =
    let a = appending g.D.Defaults.defaults (g.F.NorFlash.image c.args.flash.now) _ c.args.command (rw (← c.self.view_is) at c.requires.mirrors) (rw (← c.self.view_is) at c.requires.job) in
    ((c.step_append.ensures.faultless n f (inl (rw a.task_is (record_short c.args.command a.reads_back)))).0, λ e. cc)

pub returns-in-Failed-clause-faultless : goal.returns-in-Failed-clause-faultless
returns-in-Failed-clause-faultless g c n f =
    let a = appending g.D.Defaults.defaults (g.F.NorFlash.image c.args.flash.now) _ c.args.command (rw (← c.self.view_is) at c.requires.mirrors) (rw (← c.self.view_is) at c.requires.job) in
    absurd ((c.step_append.ensures.faultless n f (inl (rw a.task_is (record_short c.args.command a.reads_back)))).1 c.in-Failed.is)
