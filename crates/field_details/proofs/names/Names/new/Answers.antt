use Rattle.field_details.specs.declared.naming.Naming.TheVariants.{Strings, Designators}
use Rattle.field_details.proofs.NameLemmas.{named_new}
use Rattle.field_details.proofs.names.Names.new.Goals as goal

pub returns : goal.returns
returns c = record {
  strings = named_new Strings c.new.result c.new.ensures.fields c.new.ensures.collections;
  designators = named_new Designators c.new-2.result c.new-2.ensures.fields c.new-2.ensures.collections;
}
