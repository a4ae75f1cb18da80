use Rattle.std.proofs.Common.{◌≡◌, refl}
use Rattle.page_turnover.specs.declared.operation.Operation.TheVariants.{Program}
use Rattle.page_turnover.specs.Value.{Append}
use Rattle.page_turnover.proofs.Making.{next_taken}
use Rattle.page_turnover.proofs.Planning.{can_make, next_of_append}
use Rattle.page_turnover.proofs.Stepping.{append_done, step_failed, inside_new}
use Rattle.page_turnover.proofs.log.Log.step_append.Goals as goal

pub program-requires : goal.program-requires
program-requires g c =
    let old = g.F.NorFlash.image c.args.flash.now in
    let a = c.in-Some.active in
    can_make old c.args.self.now (Program a.page a.tail c.in-Append.word) c.requires.describes
    (next_of_append old c.args.self.now c.in-Append.word a (rw (← c.self.view_is, c.in-Append.is) refl) (rw (← c.self.view_is) c.in-Some.is))

pub fail-requires : goal.fail-requires
fail-requires g c = inside_new (g.F.NorFlash.image c.args.flash.now) (g.F.NorFlash.image c.program.new.flash) c.args.self.now c.requires.describes c.program.ensures.same_pages

pub returns-then-not-program-clause-steps : goal.returns-then-not-program-clause-steps
returns-then-not-program-clause-steps g c =
    let old = g.F.NorFlash.image c.args.flash.now in
    let a = c.in-Some.active in
    step_failed old c.args.self.now (Program a.page a.tail c.in-Append.word) c.fail.result (g.F.NorFlash.image c.program.new.flash) c.fail.new.self c.requires.describes
    (next_of_append old c.args.self.now c.in-Append.word a (rw (← c.self.view_is, c.in-Append.is) refl) (rw (← c.self.view_is) c.in-Some.is))
    c.program.ensures.whole c.if-not-program.ensures.made c.fail.ensures.active c.fail.ensures.unsound c.fail.ensures.rests c.fail.ensures.failed

pub returns-clause-steps : goal.returns-clause-steps
returns-clause-steps g c =
    let used = rw c.in-Some.is at c.use_tail.ensures in
    rw (used, ← c.self.view_is) (append_done (g.F.NorFlash.image c.args.flash.now) _ c.in-Append.word c.in-Some.active (g.F.NorFlash.image c.program.new.flash) (rw (← c.self.view_is) at c.requires.describes)
    (rw c.in-Append.is refl) c.in-Some.is c.program.ensures.whole c.if-not-program.ensures.made)

-- the flash takes the record: its word is short, or among those that it takes besides
pub returns-then-not-program-clause-faultless : goal.returns-then-not-program-clause-faultless
returns-then-not-program-clause-faultless g c n f s =
    let old = g.F.NorFlash.image c.args.flash.now in
    let a = c.in-Some.active in
    let task : c.args.self.now.task ≡ Append c.in-Append.word = rw (← c.self.view_is, c.in-Append.is) refl in
    let next = next_of_append old c.args.self.now c.in-Append.word a task (rw (← c.self.view_is) c.in-Some.is) in
    let e = (c.if-not-program.ensures.faultless n f (next_taken (g.F.NorFlash.takes_also c.args.flash.now) old c.args.self.now a.page a.tail c.in-Append.word (λ x. rw task at x) next s)).1 in
    cc

pub returns-clause-faultless : goal.returns-clause-faultless
returns-clause-faultless g c n f s =
    let old = g.F.NorFlash.image c.args.flash.now in
    let a = c.in-Some.active in
    let task : c.args.self.now.task ≡ Append c.in-Append.word = rw (← c.self.view_is, c.in-Append.is) refl in
    let next = next_of_append old c.args.self.now c.in-Append.word a task (rw (← c.self.view_is) c.in-Some.is) in
    ((c.if-not-program.ensures.faultless n f (next_taken (g.F.NorFlash.takes_also c.args.flash.now) old c.args.self.now a.page a.tail c.in-Append.word (λ x. rw task at x) next s)).0, λ e. cc)
