use Rattle.std.proofs.Common.{ap}
use Rattle.std.proofs.Math.Path.{fun_ext}
use Rattle.std.specs.Prelude.{filter, ◌==◌, ◌&&◌}
use Rattle.field_details.specs.Collections.{collections}
use Rattle.field_details.specs.Details.{details}
use Rattle.field_details.specs.Reports.{numbered, has_inside}
use Rattle.field_details.proofs.OutwardLemmas.{application_is}
use Rattle.field_details.proofs.details.Details.applications_of.Goals as goal

pub returns : goal.returns
returns c = λ items t. rw (c.new.ensures, c.deref.ensures.value, c.deref-2.ensures.value, t.fields, t.groups)
    (ap (λ f. filter (λ p. p.1.kind == 1 && has_inside f p.0 c.args.kind c.args.id (details items)) (numbered 0 (collections items))) (fun_ext (application_is items)))
