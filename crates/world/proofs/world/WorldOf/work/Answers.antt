use Rattle.std.proofs.Common.{◌≡◌, ◌∙◌, ap, None, Some}
use Rattle.std.specs.Option.{option_map}
use Rattle.world.specs.Asked.{noted}
use Rattle.world.specs.representation.Flash.{torn_by}
use Rattle.world.specs.History.{session}
use Rattle.flash_model.specs.Operated.{IsOperated}
use Rattle.page_turnover.specs.Next.{on_flash}
use Rattle.world.proofs.Standing.{same_flash, on_injector, works_in, noted_next, worked}
use Rattle.world.proofs.world.WorldOf.work.Goals as goal

pub returns : goal.returns
returns g c start past s =
    let t = rw (← c.self.view_is) at s in
    let image = same_flash g.D.Defaults.defaults start past _ t in
    rw c.just.ensures
    (worked g.D.Defaults.defaults start past _ c.work-work.result c.work-work.new.self c.work-work.new.flash.flash c.work-work.new.flash.asked t (c.work-work.ensures.refines _ _ t.keyboard image)
    (works_in g.D.Defaults.defaults start past _ (torn_by (option_map (λ m. m.items) c.self.inside.injector.tear) c.self.inside.injector.flash) _ c.work-work.result c.work-work.new.flash.flash t
    (c.work-work.ensures.answer _ _ t.keyboard image)
    (ap (λ tear. torn_by (option_map (λ m. m.items) tear) c.self.inside.injector.flash) c.self.invariant.1 ∙ t.flash)
    (λ n. on_injector g.D.Defaults.defaults (session start past) (torn_by (option_map (λ m. m.items) c.self.inside.injector.tear) c.self.inside.injector.flash) c.work-work.result c.work-work.new.flash.flash
    (λ operation. (c.work-work.new.flash.tear ≡ None) × (c.work-work.new.flash.asked ≡ Some (noted (on_flash operation)))) (c.work-work.ensures.operated _ _ t.keyboard image n)) (λ i. ap (λ b. b.flash) (c.work-work.ensures.untouched i)) (λ h. (c.work-work.ensures.faultless 0 h).1))
    (noted_next g.D.Defaults.defaults (session start past) c.work-work.result c.work-work.new.flash.flash.image c.work-work.new.flash.asked
    (λ operation. IsOperated (torn_by (option_map (λ m. m.items) c.self.inside.injector.tear) c.self.inside.injector.flash) (on_flash operation) c.work-work.new.flash.flash) (c.work-work.new.flash.tear ≡ None)
    (c.work-work.ensures.answer _ _ t.keyboard image) (c.work-work.ensures.operated _ _ t.keyboard image) (λ i. ap (λ b. b.asked) (c.work-work.ensures.untouched i))))
