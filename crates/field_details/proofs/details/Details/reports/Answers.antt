use Rattle.std.proofs.Common.{ap, map}
use Rattle.std.proofs.Math.Path.{fun_ext}
use Rattle.std.specs.Prelude.{filter}
use Rattle.field_details.specs.Details.{details}
use Rattle.field_details.specs.Reports.{numbered, is_first}
use Rattle.field_details.proofs.ReportLemmas.{facts_are}
use Rattle.field_details.proofs.details.Details.reports.Goals as goal

pub returns : goal.returns
returns c = λ items t. rw (c.new.ensures, c.deref.ensures.value, t.fields)
    (ap (λ f. map f (filter (is_first (details items)) (numbered 0 (details items)))) (fun_ext (facts_are items)))
