use Rattle.std.proofs.Common.{ap, sym, ◌∙◌}
use Rattle.descriptor_parse.specs.representation.StateRefines.{fault_of_main}
use Rattle.descriptor_parse.proofs.StateLemmas.{checked_main, wants_main}
use Rattle.descriptor_parse.proofs.FaultLemmas.{refused_for, refused_memory}
use Rattle.descriptor_parse.proofs.state.State.step_main.Goals as goal

pub returns-in-Some-clause-refused : goal.returns-in-Some-clause-refused
returns-in-Some-clause-refused c = λ before item e u s.
    refused_for before item _ (checked_main before item c.args.tag _ e s ∙ ap (λ v. fault_of_main c.args.tag v c.args.self.now) u ∙ sym c.check_main.ensures ∙ c.in-Some.is)

pub returns-in-Ok-clause-taken : goal.returns-in-Ok-clause-taken
returns-in-Ok-clause-taken c = λ before item e u s few.
    let none = checked_main before item c.args.tag _ e s ∙ ap (λ v. fault_of_main c.args.tag v c.args.self.now) u ∙ sym c.check_main.ensures ∙ c.in_default.is in
    record { clean = none; refines = c.in-Ok.ensures.taken before item e u s few none }

pub returns-in-Err-clause-refused : goal.returns-in-Err-clause-refused
returns-in-Err-clause-refused c = λ before item e u s.
    refused_memory before item
    (checked_main before item c.args.tag _ e s ∙ ap (λ v. fault_of_main c.args.tag v c.args.self.now) u ∙ sym c.check_main.ensures ∙ c.in_default.is)
    (wants_main c.args.tag before item _ e s c.in-Err.ensures.refused.0 c.in-Err.ensures.refused.1)
