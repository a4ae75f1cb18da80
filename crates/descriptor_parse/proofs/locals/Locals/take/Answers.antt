use Rattle.std.proofs.Common.{refl, ap, ◌∙◌, true, false}
use Rattle.descriptor_parse.specs.declared.tag.Tag.TheVariants.{Local}
use Rattle.descriptor_parse.specs.Locals.{unpaired}
use Rattle.descriptor_parse.proofs.LocalLemmas.{refine_usage, refine_half, refine_silent, is_silent}
use Rattle.descriptor_parse.proofs.locals.Locals.take.Goals as goal

pub returns-in_ok-add-in-Usage-clause-taken : goal.returns-in_ok-add-in-Usage-clause-taken
returns-in_ok-add-in-Usage-clause-taken c = λ before item e u s.
    refine_usage before item c.args.self.now _ (e ∙ ap Local c.in-Usage.is) c.add.ensures.same (rw u c.in_ok-add-in-Usage.ensures.added) s

pub returns-in_ok-take_half-in-UsageMinimum-clause-taken : goal.returns-in_ok-take_half-in-UsageMinimum-clause-taken
returns-in_ok-take_half-in-UsageMinimum-clause-taken c = λ before item e u s.
    refine_half before item true (unpaired before) _ _ (e ∙ ap Local c.in-UsageMinimum.is) refl (rw u c.in_ok-take_half-in-UsageMinimum.ensures.taken) s

pub returns-in_ok-take_half-in-UsageMaximum-clause-taken : goal.returns-in_ok-take_half-in-UsageMaximum-clause-taken
returns-in_ok-take_half-in-UsageMaximum-clause-taken c = λ before item e u s.
    refine_half before item false (unpaired before) _ _ (e ∙ ap Local c.in-UsageMaximum.is) refl (rw u c.in_ok-take_half-in-UsageMaximum.ensures.taken) s

pub returns-in-Delimiter-clause-taken : goal.returns-in-Delimiter-clause-taken
returns-in-Delimiter-clause-taken c = λ before item e u s. refine_silent before item _ (ap is_silent (e ∙ ap Local c.in-Delimiter.is)) s
