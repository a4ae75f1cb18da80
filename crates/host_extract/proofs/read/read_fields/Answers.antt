use Rattle.std.proofs.Common.{refl, ◌∙◌}
use Rattle.descriptor_parse.specs.declared.field.Kind.TheVariants.{Input}
use Rattle.descriptor_parse.specs.Readers.{fields_of}
use Rattle.descriptor_parse.specs.FieldView.{field_view}
use Rattle.host_extract.specs.Found.{found_in}
use Rattle.host_extract.proofs.ReportLemmas.{fit-all, field-read, none-left-over}
use Rattle.host_extract.proofs.read.read_fields.Goals as goal

pub loop-place-init : goal.loop-place-init
loop-place-init c =
    let all = c.into_iter-place-iterator.ensures.into_iter_gives ∙ c.report-place-items.ensures.all in
    record {
      readings = rw (c.in_ok-out.ensures.items, all) refl;
      fit = rw all (fit-all c.args.descriptor.now Input c.args.id c.report-place-items.ensures.well_formed);
    }

pub loop-place-preserved : goal.loop-place-preserved
loop-place-preserved c =
    let split = c.in-Some.ensures.steps in
    let all = fields_of c.args.descriptor.now Input c.args.id in
    record {
      readings = field-read c.loop-place.out.items c.read_field.new.out.items (found_in all c.args.bytes.now) (field_view c.in-Some.place) c.next.new.self c.args.bytes.now
          (rw split at c.loop-place.invariant.readings) c.in_ok-read_field.ensures;
      fit = (rw split at c.loop-place.invariant.fit).1;
    }

pub returns : goal.returns
returns c =
    let all = fields_of c.args.descriptor.now Input c.args.id in
    none-left-over c.loop-place.out.items c.args.bytes.now (found_in all c.args.bytes.now) (rw c.in-None.ensures.steps.0 at c.loop-place.invariant.readings)
