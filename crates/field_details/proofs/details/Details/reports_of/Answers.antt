use Rattle.std.proofs.Common.{ap, map}
use Rattle.std.proofs.Math.Path.{fun_ext}
use Rattle.std.specs.Prelude.{filter}
use Rattle.field_details.specs.Details.{details}
use Rattle.field_details.specs.Reports.{numbered, is_first_inside, report_named}
use Rattle.field_details.proofs.OutwardLemmas.{application_is}
use Rattle.field_details.proofs.details.Details.reports_of.Goals as goal

pub returns : goal.returns
returns c = λ items t. rw (c.new.ensures, c.deref.ensures.value, c.deref-2.ensures.value, t.fields, t.groups)
    (ap (λ f. map report_named (filter (is_first_inside f c.args.application (details items)) (numbered 0 (details items)))) (fun_ext (application_is items)))
