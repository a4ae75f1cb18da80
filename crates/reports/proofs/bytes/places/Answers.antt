use Rattle.std.proofs.Common.{◌≡◌, arith}
use Rattle.layers.specs.Usages.{has_key}
use Rattle.reports.proofs.Following.{listed_none, listed_more, listed_all, listed_over}
use Rattle.reports.proofs.bytes.places.Goals as goal

pub loop-place-init : goal.loop-place-init
loop-place-init c = listed_none (has_key c.args.usages.now)

pub returns-in-None : goal.returns-in-None
returns-in-None c =
    listed_all (has_key c.args.usages.now) c.loop-place.from c.loop-place.place c.loop-place.places c.loop-place.invariant (omega (arith, c.loop-place-test.true)) c.in-None.ensures

pub loop-place-preserved : goal.loop-place-preserved
loop-place-preserved c =
    listed_more (has_key c.args.usages.now) c.loop-place.from c.loop-place.place c.in-Some.usage c.loop-place.places c.loop-place.invariant c.loop-place-test.true c.in-Some.ensures

pub returns-in-Some-next_listed : goal.returns-in-Some-next_listed
returns-in-Some-next_listed c =
    let six : c.loop-place.place ≡ 6 = omega (arith, c.loop-place.auto.place-end, c.loop-place-test.false) in
    listed_over (has_key c.args.usages.now) c.loop-place.from c.in-Some-next_listed.field-0 c.loop-place.places (rw six at c.loop-place.invariant) c.in-Some-next_listed.ensures

pub returns-in-None-next_listed : goal.returns-in-None-next_listed
returns-in-None-next_listed c =
    listed_all (has_key c.args.usages.now) c.loop-place.from c.loop-place.place c.loop-place.places c.loop-place.invariant (omega (arith, c.loop-place.auto.place-end)) c.in-None-next_listed.ensures
