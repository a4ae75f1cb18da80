use Rattle.std.proofs.Common.{◌∙◌}
use Rattle.field_details.specs.declared.naming.Naming.TheVariants.{Strings, Designators}
use Rattle.field_details.proofs.NameLemmas.{named_field}
use Rattle.field_details.proofs.WalkLemmas.{both_ok}
use Rattle.field_details.proofs.names.Names.name_field.Goals as goal

pub returns : goal.returns
returns c =
    let old = c.args.self.now in
    both_ok c.name_field-2.result (λ fields others before item has at pending r. record {
      strings = named_field Strings before item old.strings c.name_field.new.self c.args.place c.deref.result.now has at (c.deref.ensures.value ∙ pending.strings.ranges)
          c.in_ok-name_field.ensures.fields c.in_ok-name_field.ensures.others r.strings;
      designators = named_field Designators before item old.designators c.name_field-2.new.self c.args.place c.deref-2.result.now has at
          (c.deref-2.ensures.value ∙ pending.designators.ranges) fields others r.designators;
    }) c.name_field-2.ensures.fields c.name_field-2.ensures.others
