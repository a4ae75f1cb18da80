use Rattle.std.proofs.Common.{◌≡◌, ◌∙◌, refl, Some, None}
use Rattle.std.specs.Prelude.{slice_get}
use Rattle.std.proofs.lemmas.Option.{slice_get_read, slice_get_past}
use Rattle.report_read.proofs.Places.{placed_at, placed_past}
use Rattle.report_read.proofs.reader.ReportReader.placed.Goals as goal

pub returns-in-Some : goal.returns-in-Some
returns-in-Some c =
    let got : slice_get c.deref.result.now c.args.field ≡ Some c.in-Some.place.now =
    slice_get_read c.deref.result.now _ c.args.field c.in-Some.place.now refl c.in-Some.ensures.lookup.3.0 c.in-Some.ensures.lookup.1 in
    rw (← c.self.view_is) (c.item_at.ensures ∙ placed_at c.self.inside.details.fields.items c.self.inside.places.items c.args.field c.in-Some.place.now c.self.invariant.1 (rw c.deref.ensures.value at got))

pub returns-in-None : goal.returns-in-None
returns-in-None c =
    let past : slice_get c.deref.result.now c.args.field ≡ None = slice_get_past c.deref.result.now c.args.field c.in-None.ensures.lookup.3 in
    rw (← c.self.view_is) (placed_past c.self.inside.details.fields.items c.self.inside.places.items c.args.field c.self.invariant.1 (rw c.deref.ensures.value at past))
