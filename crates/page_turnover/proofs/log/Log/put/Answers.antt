use Rattle.std.proofs.Common.{◌+◌, ◌^◌, ◌<◌, ◌⊎◌, refl}
use Rattle.records.specs.Slots.{encoded}
use Rattle.page_turnover.specs.declared.operation.Operation.TheVariants.{Program}
use Rattle.page_turnover.specs.Turn.{target_page}
use Rattle.page_turnover.specs.Value.{Copy, Holds}
use Rattle.page_turnover.proofs.Making.{next_taken}
use Rattle.page_turnover.proofs.Planning.{can_make, next_of_copy}
use Rattle.page_turnover.proofs.Stepping.{copy_done, copy_offered, step_failed, inside_new}
use Rattle.page_turnover.proofs.log.Log.put.Goals as goal

pub program-requires : goal.program-requires
program-requires g c =
    let old = g.F.NorFlash.image c.args.flash.now in
    let before = record c.args.self.now { task = Copy (Holds c.args.copied) c.args.word } in
    rw c.target-page.ensures.page (can_make old before (Program (target_page old) (c.args.copied + 1) c.args.word) (copy_offered old c.args.self.now (Holds c.args.copied) c.args.word c.requires.describes c.requires.waits c.requires.few c.ranges.word.fits)
    (next_of_copy old before (Holds c.args.copied) c.args.word refl refl))

pub fail-requires : goal.fail-requires
fail-requires g c = inside_new (g.F.NorFlash.image c.args.flash.now) (g.F.NorFlash.image c.program.new.flash) c.args.self.now c.requires.describes c.program.ensures.same_pages

pub returns-then-not-program-clause-steps : goal.returns-then-not-program-clause-steps
returns-then-not-program-clause-steps g c =
    let old = g.F.NorFlash.image c.args.flash.now in
    let before = record c.args.self.now { task = Copy (Holds c.args.copied) c.args.word } in
    step_failed old before (Program (target_page old) (c.args.copied + 1) c.args.word) c.fail.result (g.F.NorFlash.image c.program.new.flash) c.fail.new.self
    (copy_offered old c.args.self.now (Holds c.args.copied) c.args.word c.requires.describes c.requires.waits c.requires.few c.ranges.word.fits) (next_of_copy old before (Holds c.args.copied) c.args.word refl refl) c.program.ensures.whole
    (rw c.target-page.ensures.page at c.if-not-program.ensures.made) c.fail.ensures.active c.fail.ensures.unsound c.fail.ensures.rests c.fail.ensures.failed

pub returns-clause-steps : goal.returns-clause-steps
returns-clause-steps g c =
    let old = g.F.NorFlash.image c.args.flash.now in
    rw (← c.self.view_is) (copy_done old _ (Holds c.args.copied) c.args.word (g.F.NorFlash.image c.program.new.flash)
    (rw (← c.self.view_is) at (copy_offered old c.args.self.now (Holds c.args.copied) c.args.word c.requires.describes c.requires.waits c.requires.few c.ranges.word.fits)) refl refl c.program.ensures.whole
    (rw c.target-page.ensures.page at c.if-not-program.ensures.made))

-- the flash takes the copy: its word is short, or among those that it takes besides
pub returns-then-not-program-clause-faultless : goal.returns-then-not-program-clause-faultless
returns-then-not-program-clause-faultless g c n f s =
    let old = g.F.NorFlash.image c.args.flash.now in
    let before = record c.args.self.now { task = Copy (Holds c.args.copied) c.args.word } in
    let next = next_of_copy old before (Holds c.args.copied) c.args.word refl refl in
    let takes = g.F.NorFlash.takes_also c.args.flash.now in
    let taken : (c.args.word < 2 ^ 31) ⊎ takes c.target-page.result (c.args.copied + 1) (encoded c.args.word) = rw c.target-page.ensures.page (next_taken takes old before (target_page old) (c.args.copied + 1) c.args.word (λ x. x) next s) in
    let e = (c.if-not-program.ensures.faultless n f taken).1 in
    cc

pub returns-clause-faultless : goal.returns-clause-faultless
returns-clause-faultless g c n f s =
    let old = g.F.NorFlash.image c.args.flash.now in
    let before = record c.args.self.now { task = Copy (Holds c.args.copied) c.args.word } in
    let next = next_of_copy old before (Holds c.args.copied) c.args.word refl refl in
    let takes = g.F.NorFlash.takes_also c.args.flash.now in
    let taken : (c.args.word < 2 ^ 31) ⊎ takes c.target-page.result (c.args.copied + 1) (encoded c.args.word) = rw c.target-page.ensures.page (next_taken takes old before (target_page old) (c.args.copied + 1) c.args.word (λ x. x) next s) in
    ((c.if-not-program.ensures.faultless n f taken).0, λ e. cc)
