use Rattle.std.proofs.Common.{arith, rules, ◌≤◌}
use Rattle.std.proofs.lemmas.Bool.{iff_false}
use Rattle.page_turnover.specs.Usable.{IsUsable}
use Rattle.settings.specs.Begins.{alive}
use Rattle.settings.proofs.Begins.{refines_appending, refines_turning, needs_turn}
use Rattle.settings.proofs.store.Settings.begin.Goals as goal

pub returns-then-has_room-clause-refines : goal.returns-then-has_room-clause-refines
returns-then-has_room-clause-refines g c =
    let image = g.F.NorFlash.image c.args.flash.now in
    let d = rw (← c.self.view_is) at c.rest.ensures.describes in
    let t = rw (← c.self.view_is) at c.rest.ensures.task in
    let u : IsUsable image = search rules in
    refines_appending image c.args.changes.now _ d t u c.are_changes.ensures ((c.has_room.ensures image d).0 c.if-has_room.true)

pub returns-in-Ok-clause-refines : goal.returns-in-Ok-clause-refines
returns-in-Ok-clause-refines g c =
    let image = g.F.NorFlash.image c.args.flash.now in
    let d = rw (← c.self.view_is) at c.rest.ensures.describes in
    let exact = c.words_alive.ensures.exact c.if-words_alive.false in
    let few : alive image c.args.changes.now ≤ 511 = omega (arith, exact, c.if-words_alive.false) in
    refines_turning image c.args.changes.now c.self.inside.log c.begin_turn.new.self (c.begin_turn.ensures.describes image d) c.in-Ok.ensures.begun.1 c.are_changes.ensures few

pub returns-in-Ok-clause-needs : goal.returns-in-Ok-clause-needs
returns-in-Ok-clause-needs g c ok =
    let image = g.F.NorFlash.image c.args.flash.now in
    let d = rw (← c.self.view_is) at c.rest.ensures.describes in
    needs_turn image c.args.changes.now c.self.inside.log c.begin_turn.new.self c.in-Ok.ensures.begun.1 (iff_false (c.has_room.ensures image d) c.if-has_room.false)
