use Rattle.std.proofs.Common.{◌∙◌, ap, sym}
use Rattle.std.specs.Prelude.{map}
use Rattle.field_details.specs.AsFields.{as_counted}
use Rattle.report_read.proofs.Places.{items_declare}
use Rattle.report_read.proofs.theorems.items_declare_their_fields.Goals as goal

pub returns : goal.returns
returns c = λ items d is. items_declare items ∙ ap (map as_counted) (sym is.fields)
