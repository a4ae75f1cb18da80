use Rattle.std.proofs.Common.{◌∙◌}
use Rattle.field_details.specs.declared.naming.Naming.TheVariants.{Strings, Designators}
use Rattle.field_details.proofs.NameLemmas.{named_group}
use Rattle.field_details.proofs.WalkLemmas.{both_ok}
use Rattle.field_details.proofs.names.Names.name_collection.Goals as goal

pub returns : goal.returns
returns c =
    let old = c.args.self.now in
    both_ok c.name_collection-2.result (λ groups others before item has at pending r. record {
      strings = named_group Strings before item old.strings c.name_collection.new.self c.args.number c.deref.result.now has at (c.deref.ensures.value ∙ pending.strings.ranges)
          c.in_ok-name_collection.ensures.collections c.in_ok-name_collection.ensures.others r.strings;
      designators = named_group Designators before item old.designators c.name_collection-2.new.self c.args.number c.deref-2.result.now has at
          (c.deref-2.ensures.value ∙ pending.designators.ranges) groups others r.designators;
    }) c.name_collection-2.ensures.collections c.name_collection-2.ensures.others
