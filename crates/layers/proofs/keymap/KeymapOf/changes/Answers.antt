use Rattle.layers.proofs.Tables.{changes_by_entries, key_changes, layer_changes, all_changes}
use Rattle.layers.proofs.keymap.KeymapOf.changes.Goals as goal

pub returns-in-SetKey-clause-table : goal.returns-in-SetKey-clause-table
returns-in-SetKey-clause-table g c =
    rw (c.in-SetKey.is, ← c.self.view_is)
    (key_changes g.D.Defaults.defaults c.self.inside.codes c.in-SetKey.layer c.in-SetKey.key c.in-SetKey.code c.place.result c.index-self-place.result c.ne.result c.self.invariant c.place.ensures.in_layers c.place.ensures.in_keys c.place.ensures.value c.ne.ensures)

pub returns-in-ResetLayer-clause-table : goal.returns-in-ResetLayer-clause-table
returns-in-ResetLayer-clause-table g c =
    let e = rw c.number.ensures.value at c.differs.ensures in
    let l = rw c.number.ensures.value at c.number.ensures.a_layer in
    rw (c.in-ResetLayer.is, ← c.self.view_is) (layer_changes g.D.Defaults.defaults c.self.inside.codes c.in-ResetLayer.layer c.differs.result l e)

pub returns-in-ResetAll-clause-table : goal.returns-in-ResetAll-clause-table
returns-in-ResetAll-clause-table g c = rw (c.in-ResetAll.is, ← c.self.view_is) (all_changes g.D.Defaults.defaults c.self.inside.codes c.differs-in-ResetAll.result c.differs-in-ResetAll.ensures)

pub returns-in-SetKey-clause-entries : goal.returns-in-SetKey-clause-entries
returns-in-SetKey-clause-entries g c entries h = changes_by_entries g.D.Defaults.defaults entries c.args.self.now c.args.command _ h (returns-in-SetKey-clause-table g c)

pub returns-in-ResetLayer-clause-entries : goal.returns-in-ResetLayer-clause-entries
returns-in-ResetLayer-clause-entries g c entries h = changes_by_entries g.D.Defaults.defaults entries c.args.self.now c.args.command _ h (returns-in-ResetLayer-clause-table g c)

pub returns-in-ResetAll-clause-entries : goal.returns-in-ResetAll-clause-entries
returns-in-ResetAll-clause-entries g c entries h = changes_by_entries g.D.Defaults.defaults entries c.args.self.now c.args.command _ h (returns-in-ResetAll-clause-table g c)
