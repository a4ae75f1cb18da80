use Rattle.std.proofs.Common.{ap, ◌∙◌, reverse}
use Rattle.std.proofs.lemmas.List.{reverse-reverse}
use Rattle.field_details.specs.Around.{around}
use Rattle.field_details.proofs.OutwardLemmas.{outwards_around}
use Rattle.field_details.proofs.details.Details.around.Goals as goal

pub returns : goal.returns
returns c = λ items t. rw (c.new.ensures, c.deref.ensures.value, c.deref-2.ensures.value, t.fields, t.groups)
    (ap reverse (outwards_around items c.args.place) ∙ reverse-reverse (around items c.args.place))
