use Rattle.std.proofs.Common.{◌≡◌, refl, Some}
use Rattle.std.specs.Prelude.{slice_get}
use Rattle.std.proofs.lemmas.Option.{slice_get_read}
use Rattle.report_read.proofs.reader.ReportReader.plan.Goals as goal

pub returns-in-Some-clause-fields : goal.returns-in-Some-clause-fields
returns-in-Some-clause-fields c =
    let got : slice_get c.deref.result.now c.args.id ≡ Some c.in-Some.plans.now =
    slice_get_read c.deref.result.now _ c.args.id c.in-Some.plans.now refl c.in-Some.ensures.lookup.3.0 c.in-Some.ensures.lookup.1 in
    let is = c.self.invariant.0.here c.args.id c.in-Some.plans.now (rw c.deref.ensures.value at got) c.args.kind in
    rw (c.deref-in-Some.ensures.value, c.plan_on-plan.ensures, ← c.self.view_is) is.fields

pub returns-in-Some-clause-lanes : goal.returns-in-Some-clause-lanes
returns-in-Some-clause-lanes c =
    let got : slice_get c.deref.result.now c.args.id ≡ Some c.in-Some.plans.now =
    slice_get_read c.deref.result.now _ c.args.id c.in-Some.plans.now refl c.in-Some.ensures.lookup.3.0 c.in-Some.ensures.lookup.1 in
    let is = c.self.invariant.0.here c.args.id c.in-Some.plans.now (rw c.deref.ensures.value at got) c.args.kind in
    rw (c.deref-in-Some.ensures.value, c.plan_on-plan.ensures, ← c.self.view_is) is.lanes
