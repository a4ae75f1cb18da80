use Rattle.std.proofs.Common.{arith}
use Rattle.layers.proofs.Tables.{has_changed, refines_changed, writes_key, writes_layer, writes_all}
use Rattle.layers.proofs.keymap.KeymapOf.apply.Goals as goal

pub returns-in-SetKey-clause-entries : goal.returns-in-SetKey-clause-entries
returns-in-SetKey-clause-entries g c entries h =
    rw (c.in-SetKey.is, c.place.ensures.value)
    (has_changed g.D.Defaults.defaults entries _ _ _ (writes_key g.D.Defaults.defaults c.in-SetKey.layer c.in-SetKey.key c.in-SetKey.code c.self.inside.codes c.place.ensures.in_layers c.place.ensures.in_keys c.self.invariant) (rw c.self.view_is h))

pub returns-in-SetKey-clause-refines : goal.returns-in-SetKey-clause-refines
returns-in-SetKey-clause-refines g c format words word h e =
    let f = rw c.in-SetKey.is at e in
    rw (c.place.ensures.value)
    (refines_changed g.D.Defaults.defaults _ _ _ format words word (writes_key g.D.Defaults.defaults c.in-SetKey.layer c.in-SetKey.key c.in-SetKey.code c.self.inside.codes c.place.ensures.in_layers c.place.ensures.in_keys c.self.invariant) (rw c.self.view_is h) f)

pub returns-in-ResetAll-clause-entries : goal.returns-in-ResetAll-clause-entries
returns-in-ResetAll-clause-entries g c entries h =
    rw (c.in-ResetAll.is)
    (has_changed g.D.Defaults.defaults entries _ _ _ (writes_all g.D.Defaults.defaults c.self.inside.codes _ c.reset-in-ResetAll.auto.codes (λ place l. c.reset-in-ResetAll.ensures.inside place (omega arith) l)) (rw c.self.view_is h))

pub returns-in-ResetAll-clause-refines : goal.returns-in-ResetAll-clause-refines
returns-in-ResetAll-clause-refines g c format words word h e =
    let f = rw c.in-ResetAll.is at e in
    refines_changed g.D.Defaults.defaults _ _ _ format words word (writes_all g.D.Defaults.defaults c.self.inside.codes _ c.reset-in-ResetAll.auto.codes (λ place l. c.reset-in-ResetAll.ensures.inside place (omega arith) l)) (rw c.self.view_is h) f

pub returns-in-ResetLayer-clause-entries : goal.returns-in-ResetLayer-clause-entries
returns-in-ResetLayer-clause-entries g c entries h =
    rw (c.in-ResetLayer.is)
    (has_changed g.D.Defaults.defaults entries _ _ _ (writes_layer g.D.Defaults.defaults c.in-ResetLayer.layer c.self.inside.codes c.reset.new.codes c.reset.auto.codes
    (λ place a b. c.reset.ensures.inside place (rw c.number.ensures.value a) (rw c.number.ensures.value b))
    (λ place a. c.reset.ensures.below place (rw c.number.ensures.value a))
    (λ place a. c.reset.ensures.above place (rw c.number.ensures.value a)))
    (rw c.self.view_is h))

pub returns-in-ResetLayer-clause-refines : goal.returns-in-ResetLayer-clause-refines
returns-in-ResetLayer-clause-refines g c format words word h e =
    let f = rw c.in-ResetLayer.is at e in
    refines_changed g.D.Defaults.defaults _ _ _ format words word (writes_layer g.D.Defaults.defaults c.in-ResetLayer.layer c.self.inside.codes c.reset.new.codes c.reset.auto.codes
    (λ place a b. c.reset.ensures.inside place (rw c.number.ensures.value a) (rw c.number.ensures.value b))
    (λ place a. c.reset.ensures.below place (rw c.number.ensures.value a))
    (λ place a. c.reset.ensures.above place (rw c.number.ensures.value a)))
    (rw c.self.view_is h) f
