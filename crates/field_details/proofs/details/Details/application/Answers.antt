use Rattle.field_details.proofs.OutwardLemmas.{application_is}
use Rattle.field_details.proofs.details.Details.application.Goals as goal

pub returns : goal.returns
returns c = λ items t. rw (c.application_of.ensures, c.deref.ensures.value, c.deref-2.ensures.value, t.fields, t.groups) (application_is items c.args.place)
