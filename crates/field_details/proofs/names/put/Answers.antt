use Rattle.std.proofs.Common.{◌≡◌, ◌<◌, ◌≤◌, length, refl, arith}
use Rattle.field_details.specs.representation.Named.{AreGiven}
use Rattle.field_details.proofs.PartLemmas.{given_filled, given_few, given_more}
use Rattle.field_details.proofs.names.put.Goals as goal

pub loop-parts-preserved : goal.loop-parts-preserved
loop-parts-preserved c = λ ranges given at a.
    let before : AreGiven ranges c.loop-parts.parts.items given = c.loop-parts.invariant ranges given at a in
    let fewer : length c.loop-parts.parts.items < length given = omega (arith, at) in
    rw c.in_ok-push.ensures.items (given_filled ranges c.loop-parts.parts.items given _ before fewer refl refl)

pub returns : goal.returns
returns c = λ ranges given at p a.
    let before : AreGiven ranges c.loop-parts.parts.items given = c.loop-parts.invariant ranges given at a in
    let few : length c.loop-parts.parts.items ≤ length given = given_few ranges c.loop-parts.parts.items given before in
    let all : length c.loop-parts.parts.items ≡ length given = omega (arith, at, few) in
    rw c.in_ok-push-2.ensures.items (given_more ranges c.loop-parts.parts.items given c.args.part before all p)
