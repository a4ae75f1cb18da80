use Rattle.std.proofs.Common.{rules, ◌≡◌, ◌∙◌, None}
use Rattle.flash_model.proofs.ByMask.{no_program, whole_program}
use Rattle.steady_flash.specs.Layout.{held_at}
use Rattle.steady_flash.specs.Sound.{IsOpen}
use Rattle.steady_flash.proofs.Calm.{ended_torn}
use Rattle.steady_flash.proofs.Doubts.{settled_all}
use Rattle.steady_flash.proofs.Cutting.{program_refused, program_done}
use Rattle.steady_flash.proofs.steady.SteadyFlash.program.Goals as goal

pub returns-then-not-takes-clause-outcome : goal.returns-then-not-takes-clause-outcome
returns-then-not-takes-clause-outcome g c b t = no_program _ c.args.page c.args.slot c.args.bytes

pub invariant_of-self-clause-settled : goal.invariant_of-self-clause-settled
invariant_of-self-clause-settled g c =
    let none : c.args.self.now.in_doubt ≡ None = search rules in
    (c.write.ensures.outcome none c.args.self.now.settled).0

pub returns-in-Ok-clause-outcome : goal.returns-in-Ok-clause-outcome
returns-in-Ok-clause-outcome g c b t =
    let none : c.args.self.now.in_doubt ≡ None = search rules in
    (c.in-Ok.ensures.outcome none c.args.self.now.settled).1

pub returns-in-Err-Torn-clause-outcome : goal.returns-in-Err-Torn-clause-outcome
returns-in-Err-Torn-clause-outcome g c b t =
    let none : c.args.self.now.in_doubt ≡ None = search rules in
    (c.in-Err-Torn.ensures.outcome none c.args.self.now.settled).1

pub returns-in-Err-clause-outcome : goal.returns-in-Err-clause-outcome
returns-in-Err-clause-outcome g c b t =
    let none : c.args.self.now.in_doubt ≡ None = search rules in
    (c.in-Err.ensures.outcome none c.args.self.now.settled).1

pub returns-then-not-takes-clause-cut : goal.returns-then-not-takes-clause-cut
returns-then-not-takes-clause-cut g c k lost none b t =
    let l = c.args.self.now.layout in
    let old = g.F.MarkedFlash.slots c.args.self.now.flash in
    let marks = g.F.MarkedFlash.marks c.args.self.now.flash in
    program_refused _ marks old l c.args.self.now.in_doubt c.args.page c.args.slot c.args.bytes (IsOpen marks (held_at l.held c.args.page).page) none (rw lost at k) (settled_all old l c.args.self.now.in_doubt none c.args.self.now.settled)

pub returns-in-Ok-clause-cut : goal.returns-in-Ok-clause-cut
returns-in-Ok-clause-cut g c k lost none b t =
    let l = c.args.self.now.layout in
    let old = g.F.MarkedFlash.slots c.args.self.now.flash in
    let new = g.F.MarkedFlash.slots c.write.new.flash in
    let marks = g.F.MarkedFlash.marks c.write.new.flash in
    let x = c.write.ensures.outcome none c.args.self.now.settled in
    let y = c.in-Ok.ensures.outcome none c.args.self.now.settled in
    let now = c.in-Ok.ensures.sound ∙ none in
    rw c.write.ensures.same_size (program_done _ marks old new l c.write.new.layout c.args.self.now.in_doubt c.write.new.in_doubt c.args.page c.args.slot c.args.bytes (IsOpen marks (held_at l.held c.args.page).page) c.write.ensures.same_pages now (c.in-Ok.ensures.calm (rw lost at k)) (settled_all new c.write.new.layout c.write.new.in_doubt now x.0) (whole_program _ c.args.page c.args.slot c.args.bytes _ y.1))

pub returns-in-Err-Torn-clause-cut : goal.returns-in-Err-Torn-clause-cut
returns-in-Err-Torn-clause-cut g c k lost none b t =
    let l = c.args.self.now.layout in
    let old = g.F.MarkedFlash.slots c.args.self.now.flash in
    let new = g.F.MarkedFlash.slots c.write.new.flash in
    let marks = g.F.MarkedFlash.marks c.write.new.flash in
    let x = c.write.ensures.outcome none c.args.self.now.settled in
    let y = c.in-Err-Torn.ensures.outcome none c.args.self.now.settled in
    let now = c.in-Err-Torn.ensures.no_doubt c.in-Err-Torn.field-0-is ∙ none in
    let calm = ended_torn _ marks c.write.new.layout c.in-Err-Torn.field-0 c.in-Err-Torn.field-0-is (c.in-Err-Torn.ensures.calm (rw lost at k)) in
    rw c.write.ensures.same_size (program_done _ marks old new l c.write.new.layout c.args.self.now.in_doubt c.write.new.in_doubt c.args.page c.args.slot c.args.bytes (IsOpen marks (held_at l.held c.args.page).page) c.write.ensures.same_pages now calm (settled_all new c.write.new.layout c.write.new.in_doubt now x.0) y.1)
