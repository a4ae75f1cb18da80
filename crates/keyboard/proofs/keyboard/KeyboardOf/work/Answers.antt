use Rattle.keyboard.specs.Calls.{image_after}
use Rattle.keyboard.specs.Endpoint.{ep_calls}
use Rattle.page_turnover.specs.declared.operation.Operation.{Operation}
use Rattle.page_turnover.specs.Next.{on_flash}
use Rattle.keyboard.proofs.Working.{makes_such, cuts_legally, refines_settled, refines_failed, refines_other, operating_on}
use Rattle.keyboard.proofs.keyboard.KeyboardOf.work.Goals as goal

pub returns-in-Settled-clause-refines : goal.returns-in-Settled-clause-refines
returns-in-Settled-clause-refines g c start past s e =
    let t = rw (← c.self.view_is) at s in
    let of = c.work-work.ensures in
    let o = operating_on g.D.Defaults.defaults (image_after start past) _ _ c.work-work.result _ c.work-work.new.self e
    (record { leaves = of.leaves; down = of.down; order = of.order }) in
    rw c.in-Settled.is (refines_settled g.D.Defaults.defaults start past _ c.settle.new.self c.work-work.new.self _ t (rw c.in-Settled.is at o) (c.settle.ensures.refines (ep_calls g.D.Defaults.defaults start past) t.now.ep))

pub returns-in-Settled-clause-answer : goal.returns-in-Settled-clause-answer
returns-in-Settled-clause-answer g c start past s e = (returns-in-Settled-clause-refines g c start past s e).answered.0

pub returns-in-Failed-clause-refines : goal.returns-in-Failed-clause-refines
returns-in-Failed-clause-refines g c start past s e =
    let t = rw (← c.self.view_is) at s in
    let of = c.work-work.ensures in
    let o = operating_on g.D.Defaults.defaults (image_after start past) _ _ c.work-work.result _ c.work-work.new.self e
    (record { leaves = of.leaves; down = of.down; order = of.order }) in
    rw c.in-Failed.is (refines_failed g.D.Defaults.defaults start past _ c.fail.new.self c.work-work.new.self _ t (rw c.in-Failed.is at o) (c.fail.ensures.refines (ep_calls g.D.Defaults.defaults start past) t.now.ep))

pub returns-in-Failed-clause-answer : goal.returns-in-Failed-clause-answer
returns-in-Failed-clause-answer g c start past s e = (returns-in-Failed-clause-refines g c start past s e).answered.0

pub returns-in-Idle-clause-refines : goal.returns-in-Idle-clause-refines
returns-in-Idle-clause-refines g c start past s e =
    let t = rw (← c.self.view_is) at s in
    let of = c.work-work.ensures in
    let o = operating_on g.D.Defaults.defaults (image_after start past) _ _ c.work-work.result _ c.work-work.new.self e
    (record { leaves = of.leaves; down = of.down; order = of.order }) in
    refines_other g.D.Defaults.defaults start past c.work-work.result _ c.work-work.new.self _ t o c.in-Idle.is

pub returns-in-Idle-clause-answer : goal.returns-in-Idle-clause-answer
returns-in-Idle-clause-answer g c start past s e = (returns-in-Idle-clause-refines g c start past s e).answered.0

pub returns-in-Settled-clause-cut : goal.returns-in-Settled-clause-cut
returns-in-Settled-clause-cut g c start past s e n =
    let after = returns-in-Settled-clause-refines g c start past s e in
    cuts_legally g.D.Defaults.defaults start past c.work-work.result _ s.answered after.answered.0 n

pub returns-in-Failed-clause-cut : goal.returns-in-Failed-clause-cut
returns-in-Failed-clause-cut g c start past s e n =
    let after = returns-in-Failed-clause-refines g c start past s e in
    cuts_legally g.D.Defaults.defaults start past c.work-work.result _ s.answered after.answered.0 n

pub returns-in-Idle-clause-cut : goal.returns-in-Idle-clause-cut
returns-in-Idle-clause-cut g c start past s e n =
    let after = returns-in-Idle-clause-refines g c start past s e in
    cuts_legally g.D.Defaults.defaults start past c.work-work.result _ s.answered after.answered.0 n

pub returns-in-Settled-clause-operated : goal.returns-in-Settled-clause-operated
returns-in-Settled-clause-operated g c start past s e n =
    let t = rw (← c.self.view_is) at s in
    let of = c.work-work.ensures in
    let o = operating_on g.D.Defaults.defaults (image_after start past) _ _ c.work-work.result _ c.work-work.new.self e
    (record { leaves = of.leaves; down = of.down; order = of.order }) in
    makes_such g.D.Defaults.defaults start past _ c.work-work.result _ c.work-work.new.self (λ (operation : Operation). g.F.NorFlash.operates c.args.flash.now (on_flash operation) c.work-work.new.flash) t o n
    (λ operation next. of.operated operation (rw e at next))

pub returns-in-Failed-clause-operated : goal.returns-in-Failed-clause-operated
returns-in-Failed-clause-operated g c start past s e n =
    let t = rw (← c.self.view_is) at s in
    let of = c.work-work.ensures in
    let o = operating_on g.D.Defaults.defaults (image_after start past) _ _ c.work-work.result _ c.work-work.new.self e
    (record { leaves = of.leaves; down = of.down; order = of.order }) in
    makes_such g.D.Defaults.defaults start past _ c.work-work.result _ c.work-work.new.self (λ (operation : Operation). g.F.NorFlash.operates c.args.flash.now (on_flash operation) c.work-work.new.flash) t o n
    (λ operation next. of.operated operation (rw e at next))

pub returns-in-Idle-clause-operated : goal.returns-in-Idle-clause-operated
returns-in-Idle-clause-operated g c start past s e n =
    let t = rw (← c.self.view_is) at s in
    let of = c.work-work.ensures in
    let o = operating_on g.D.Defaults.defaults (image_after start past) _ _ c.work-work.result _ c.work-work.new.self e
    (record { leaves = of.leaves; down = of.down; order = of.order }) in
    makes_such g.D.Defaults.defaults start past _ c.work-work.result _ c.work-work.new.self (λ (operation : Operation). g.F.NorFlash.operates c.args.flash.now (on_flash operation) c.work-work.new.flash) t o n
    (λ operation next. of.operated operation (rw e at next))
