use Rattle.std.proofs.Common.{◌≡◌, ◌<◌, ℕ, arith, refl}
use Rattle.layers.specs.Usages.{UsageSets, has_consumer, IsNextConsumer, HasNoConsumerFrom}
use Rattle.reports.specs.representation.Next.{IsNext, NonePasses}
use Rattle.reports.proofs.Following.{words_none, words_more, words_all, words_full}
use Rattle.reports.proofs.bytes.consumer.Goals as goal

is_next : (usages : UsageSets) (from usage : ℕ) → IsNextConsumer usages from usage → usage < 0x400 → IsNext (has_consumer usages) from 1023 usage
is_next usages from usage n l = record { after = n.after; within = omega arith; is = n.is; first = n.first }

none_from : (usages : UsageSets) (from : ℕ) → HasNoConsumerFrom usages from → NonePasses (has_consumer usages) from 1023
none_from usages from n = record { each = λ v low high. n.each v low }

pub loop-place-init : goal.loop-place-init
loop-place-init c = words_none (has_consumer c.args.usages.now)

pub returns-in-None : goal.returns-in-None
returns-in-None c =
    words_all (has_consumer c.args.usages.now) c.loop-place.from c.loop-place.place c.loop-place.bytes c.loop-place.invariant (omega (arith, c.loop-place-test.true))
    (none_from c.args.usages.now c.loop-place.from c.in-None.ensures.next)

pub loop-place-preserved : goal.loop-place-preserved
loop-place-preserved c =
    words_more (has_consumer c.args.usages.now) c.loop-place.from c.loop-place.place c.in-Some.usage _ _ c.loop-place.bytes c.loop-place.invariant c.loop-place-test.true
    (is_next c.args.usages.now c.loop-place.from c.in-Some.usage c.in-Some.ensures.next c.in-Some.ensures.within) refl refl

pub returns : goal.returns
returns c =
    let four : c.loop-place.place ≡ 4 = omega (arith, c.loop-place.auto.place-end, c.loop-place-test.false) in
    words_full (has_consumer c.args.usages.now) c.loop-place.from c.loop-place.bytes (rw four at c.loop-place.invariant)
