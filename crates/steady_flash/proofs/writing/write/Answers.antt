use Rattle.steady_flash.proofs.Doubts.{settled_all, settled_beside, doubted_beside, programs_as, may_program_as, doubted_as, left_torn, left_lost, left_doubted}
use Rattle.steady_flash.specs.Layout.{held_at}
use Rattle.steady_flash.specs.Sound.{IsOpen}
use Rattle.steady_flash.proofs.Cutting.{program_as}
use Rattle.steady_flash.proofs.writing.write.Goals as goal

pub returns-in-Ok-clause-outcome : goal.returns-in-Ok-clause-outcome
returns-in-Ok-clause-outcome g c none settled =
    let x = c.in-Ok.ensures.outcome (settled_all (g.F.MarkedFlash.slots c.args.flash.now) c.args.layout.now c.args.in_doubt.now none settled) in
    (settled_beside (g.F.MarkedFlash.slots c.program.new.flash) c.program.new.layout c.args.in_doubt.now x.0, programs_as (g.F.MarkedFlash.slots c.args.flash.now) (g.F.MarkedFlash.slots c.program.new.flash) c.args.layout.now c.program.new.layout c.args.in_doubt.now c.args.in_doubt.now c.args.page c.args.slot c.args.bytes none none x.1)

pub returns-in-Err-Torn-clause-outcome : goal.returns-in-Err-Torn-clause-outcome
returns-in-Err-Torn-clause-outcome g c none settled =
    let x = left_torn c.in-Err-Torn.field-0 (g.F.MarkedFlash.slots c.args.flash.now) (g.F.MarkedFlash.slots c.program.new.flash) c.args.layout.now c.program.new.layout c.args.page c.args.slot c.args.bytes c.in-Err-Torn.field-0-is (c.in-Err-Torn.ensures.outcome (settled_all (g.F.MarkedFlash.slots c.args.flash.now) c.args.layout.now c.args.in_doubt.now none settled)) in
    (settled_beside (g.F.MarkedFlash.slots c.program.new.flash) c.program.new.layout c.args.in_doubt.now x.0, may_program_as (g.F.MarkedFlash.slots c.args.flash.now) (g.F.MarkedFlash.slots c.program.new.flash) c.args.layout.now c.program.new.layout c.args.in_doubt.now c.args.in_doubt.now c.args.page c.args.slot c.args.bytes none none x.1)

pub returns-in-Err-Lost-clause-outcome : goal.returns-in-Err-Lost-clause-outcome
returns-in-Err-Lost-clause-outcome g c none settled =
    let x = left_lost c.in-Err-Lost.field-0 (g.F.MarkedFlash.slots c.args.flash.now) (g.F.MarkedFlash.slots c.program.new.flash) c.args.layout.now c.program.new.layout c.args.page c.args.slot c.args.bytes c.in-Err-Lost.field-0-is (c.in-Err-Lost.ensures.outcome (settled_all (g.F.MarkedFlash.slots c.args.flash.now) c.args.layout.now c.args.in_doubt.now none settled)) in
    (settled_beside (g.F.MarkedFlash.slots c.program.new.flash) c.program.new.layout c.args.in_doubt.now x.0, may_program_as (g.F.MarkedFlash.slots c.args.flash.now) (g.F.MarkedFlash.slots c.program.new.flash) c.args.layout.now c.program.new.layout c.args.in_doubt.now c.args.in_doubt.now c.args.page c.args.slot c.args.bytes none none x.1)

pub returns-in-Err-InDoubt-clause-outcome : goal.returns-in-Err-InDoubt-clause-outcome
returns-in-Err-InDoubt-clause-outcome g c none settled =
    let x = left_doubted c.in-Err-InDoubt.field-0 (g.F.MarkedFlash.slots c.args.flash.now) (g.F.MarkedFlash.slots c.program.new.flash) c.args.layout.now c.program.new.layout c.args.page c.args.slot c.args.bytes c.in-Err-InDoubt.field-0-is (c.in-Err-InDoubt.ensures.outcome (settled_all (g.F.MarkedFlash.slots c.args.flash.now) c.args.layout.now c.args.in_doubt.now none settled)) in
    (doubted_beside (g.F.MarkedFlash.slots c.args.flash.now) (g.F.MarkedFlash.slots c.program.new.flash) c.args.layout.now c.program.new.layout c.args.page c.args.slot x.0, doubted_as (g.F.MarkedFlash.slots c.args.flash.now) (g.F.MarkedFlash.slots c.program.new.flash) c.args.layout.now c.program.new.layout c.args.in_doubt.now c.args.page c.args.slot c.args.bytes none x.1 x.0)

pub returns-in-Err-Lost-clause-cut : goal.returns-in-Err-Lost-clause-cut
returns-in-Err-Lost-clause-cut g c k none settled apart =
    let l = c.args.layout.now in
    let old = g.F.MarkedFlash.slots c.args.flash.now in
    let marks = g.F.MarkedFlash.marks c.program.new.flash in
    program_as _ marks old (g.F.MarkedFlash.slots c.program.new.flash) l c.args.in_doubt.now c.args.page c.args.slot l.pages c.args.bytes (IsOpen marks (held_at l.held c.args.page).page) none
    (c.in-Err-Lost.ensures.cut k (settled_all old l c.args.in_doubt.now none settled) (rw c.in-Err-Lost.field-0-is apart))

pub returns-in-Err-InDoubt-clause-cut : goal.returns-in-Err-InDoubt-clause-cut
returns-in-Err-InDoubt-clause-cut g c k none settled apart =
    let l = c.args.layout.now in
    let old = g.F.MarkedFlash.slots c.args.flash.now in
    let marks = g.F.MarkedFlash.marks c.program.new.flash in
    program_as _ marks old (g.F.MarkedFlash.slots c.program.new.flash) l c.args.in_doubt.now c.args.page c.args.slot l.pages c.args.bytes (IsOpen marks (held_at l.held c.args.page).page) none
    (c.in-Err-InDoubt.ensures.cut k (settled_all old l c.args.in_doubt.now none settled) (rw c.in-Err-InDoubt.field-0-is apart))
