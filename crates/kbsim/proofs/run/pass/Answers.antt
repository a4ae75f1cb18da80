use Rattle.std.proofs.Common.{◌≡◌, true, ◌+◌, List, length, arith, subst}
use Rattle.world.specs.declared.event.Event.{Event}
use Rattle.world.specs.Promise.{Promise}
use Rattle.world.specs.Relation.{Runs, room_for}
use Rattle.kbsim.proofs.OutputLemmas.{passed_one}
use Rattle.kbsim.proofs.run.pass.Goals as goal
use Rattle.layers.specs.Standard.{standard}

pub returns : goal.returns
returns g c =
    let one : length c.run.new.answers.items ≡ length c.clear.new.self.items + 1
    = omega (arith, c.in_ok-run.ensures.all, c.from_ref.ensures.len, c.run.new.answers.ok.0, c.clear.new.self.ok.0) in
    let ran = subst (λ (events : List Event). Runs standard (Promise standard) c.args.world.now c.run.new.self events (room_for c.clear.new.self) c.clear.new.self.items c.run.new.answers.items true)
    c.from_ref.ensures.value c.in_ok-run.ensures.promise in
    passed_one _ _ _ _ _ _ _ ran c.clear.ensures.items one
