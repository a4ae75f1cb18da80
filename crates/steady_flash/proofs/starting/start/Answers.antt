use Rattle.std.proofs.Common.{rules, arith, ◌≡◌, ◌-◌}
use Rattle.steady_flash.proofs.starting.start.Goals as goal

pub returns-in-Ok-clause-settled : goal.returns-in-Ok-clause-settled
returns-in-Ok-clause-settled g c = λ before k.
    let pages : before.pages ≡ c.pages-count.result - 1 = omega (arith, k.laid_out.placed.served.count) in
    let settled = c.in-Ok.ensures.settled before k pages in
    (rw pages settled.0, settled.1)

pub returns-in-Ok-clause-told : goal.returns-in-Ok-clause-told
returns-in-Ok-clause-told g c = λ told. c.in-Ok.ensures.told (rw c.pages-count.ensures.count told)

pub returns-in-Err-Named-clause-complete : goal.returns-in-Err-Named-clause-complete
returns-in-Err-Named-clause-complete g c = λ h before k o room.
    let pages : before.pages ≡ c.pages-count.result - 1 = omega (arith, k.laid_out.placed.served.count) in
    let done = c.settle_all.ensures.complete h before k pages (rw pages at o) room in
    absurd (search rules)

pub returns-in-Ok-clause-sound : goal.returns-in-Ok-clause-sound
returns-in-Ok-clause-sound g c = λ before k.
    let pages : before.layout.pages ≡ c.pages-count.result - 1 = omega (arith, k.laid_out.placed.served.count) in
    c.in-Ok.ensures.sound before k pages

pub returns-in-Err-Named-clause-sound : goal.returns-in-Err-Named-clause-sound
returns-in-Err-Named-clause-sound g c = λ before k.
    let pages : before.layout.pages ≡ c.pages-count.result - 1 = omega (arith, k.laid_out.placed.served.count) in
    c.in-Err-Named.ensures.sound before k pages

pub returns-in-Err-clause-sound : goal.returns-in-Err-clause-sound
returns-in-Err-clause-sound g c = λ before k.
    let pages : before.layout.pages ≡ c.pages-count.result - 1 = omega (arith, k.laid_out.placed.served.count) in
    c.in-Err.ensures.sound before k pages
