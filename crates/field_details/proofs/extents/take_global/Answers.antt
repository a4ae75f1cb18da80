use Rattle.std.proofs.Common.{ap, ◌∙◌}
use Rattle.descriptor_parse.specs.declared.tag.Tag.TheVariants.{Global}
use Rattle.descriptor_parse.proofs.StackLemmas.{not_push, not_pop}
use Rattle.field_details.specs.representation.Relation.{extents_of}
use Rattle.field_details.proofs.ExtentLemmas.{extents_push, refine_known}
use Rattle.field_details.proofs.extents.take_global.Goals as goal

pub returns-in_ok-save-in-Push-clause-taken : goal.returns-in_ok-save-in-Push-clause-taken
returns-in_ok-save-in-Push-clause-taken c = λ before item e s.
    c.in_ok-save-in-Push.ensures extents_of before item (λ items. extents_push item items (e ∙ ap Global c.in-Push.is)) (e ∙ ap Global c.in-Push.is) s

pub returns-in-Pop-clause-taken : goal.returns-in-Pop-clause-taken
returns-in-Pop-clause-taken c = λ before item e s. c.restore.ensures extents_of before item (e ∙ ap Global c.in-Pop.is) s

pub returns-in_default-clause-taken : goal.returns-in_default-clause-taken
returns-in_default-clause-taken c = λ before item e s.
    refine_known before item (Global c.args.tag) _ e (λ no. cc) (not_push _ c.in_default.not-Push) (not_pop _ c.in_default.not-Pop) s
