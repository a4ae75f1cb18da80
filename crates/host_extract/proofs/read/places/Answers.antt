use Rattle.std.proofs.Common.{◌≡◌, ◌+◌, ◌≤◌, refl, arith, ◌∙◌, ap, sym}
use Rattle.descriptor_parse.specs.declared.field.Kind.TheVariants.{Input}
use Rattle.descriptor_parse.specs.FieldView.{field_view}
use Rattle.host_extract.proofs.ReportLemmas.{places_of, more-places, few-places}
use Rattle.host_extract.proofs.read.places.Goals as goal

pub loop-declared-init : goal.loop-declared-init
loop-declared-init c =
    let all = c.into_iter-declared-iterator.ensures.into_iter_gives ∙ c.report-declared-items.ensures.all in
    record {
      all = omega (arith, ap places_of all);
      few = few-places c.args.descriptor.now Input c.args.id c.report-declared-items.ensures.well_formed;
    }

pub loop-declared-preserved : goal.loop-declared-preserved
loop-declared-preserved c =
    let more = more-places (field_view c.in-Some.declared) c.next.new.self in
    let i = c.loop-declared.invariant in
    let all = rw c.in-Some.ensures.steps at i.all in
    record { all = omega (arith, all, more); few = i.few }
