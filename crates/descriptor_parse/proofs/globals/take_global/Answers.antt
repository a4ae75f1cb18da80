use Rattle.std.proofs.Common.{refl, ap, sym, ◌∙◌}
use Rattle.descriptor_parse.specs.declared.tag.Tag.TheVariants.{Global}
use Rattle.descriptor_parse.specs.representation.GlobalsOf.{globals_of, globals_with}
use Rattle.descriptor_parse.proofs.StackLemmas.{not_push, not_pop}
use Rattle.descriptor_parse.proofs.GlobalLemmas.{globals_push, refine_set}
use Rattle.descriptor_parse.proofs.globals.take_global.Goals as goal

pub returns-in_ok-save-in-Push-clause-taken : goal.returns-in_ok-save-in-Push-clause-taken
returns-in_ok-save-in-Push-clause-taken c = λ before item e bytes id s.
    c.in_ok-save-in-Push.ensures globals_of before item (λ items. globals_push item items (e ∙ ap Global c.in-Push.is)) (e ∙ ap Global c.in-Push.is) s

pub returns-in-Pop-clause-taken : goal.returns-in-Pop-clause-taken
returns-in-Pop-clause-taken c = λ before item e bytes id s. c.restore.ensures globals_of before item (e ∙ ap Global c.in-Pop.is) s

pub returns-in_default-clause-taken : goal.returns-in_default-clause-taken
returns-in_default-clause-taken c = λ before item e bytes id s.
    refine_set before item c.args.tag _ _ e (not_push _ c.in_default.not-Push) (not_pop _ c.in_default.not-Pop) id
    (c.set.ensures ∙ ap (λ b. globals_with c.args.tag b c.args.globals.now.now) (sym bytes)) refl s
