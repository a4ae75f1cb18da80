use Rattle.std.proofs.Common.{ap, sym, ◌∙◌}
use Rattle.descriptor_parse.specs.Globals.{unsigned}
use Rattle.descriptor_parse.specs.representation.StateRefines.{fault_of_global}
use Rattle.descriptor_parse.proofs.StateLemmas.{checked_global, wants_global}
use Rattle.descriptor_parse.proofs.FaultLemmas.{refused_for, refused_memory}
use Rattle.descriptor_parse.proofs.state.State.step_global.Goals as goal

pub returns-in-Some-clause-refused : goal.returns-in-Some-clause-refused
returns-in-Some-clause-refused c = λ before item e b s.
    refused_for before item _ (checked_global before item c.args.tag _ e s ∙ ap (λ v. fault_of_global c.args.tag v c.args.self.now) (ap unsigned b) ∙ sym c.check_global.ensures ∙ c.in-Some.is)

pub returns-in-Ok-clause-taken : goal.returns-in-Ok-clause-taken
returns-in-Ok-clause-taken c = λ before item e b s.
    let none = checked_global before item c.args.tag _ e s ∙ ap (λ v. fault_of_global c.args.tag v c.args.self.now) (ap unsigned b) ∙ sym c.check_global.ensures ∙ c.in_default.is in
    record { clean = none; refines = c.in-Ok.ensures.taken before item e b s none }

pub returns-in-Err-clause-refused : goal.returns-in-Err-clause-refused
returns-in-Err-clause-refused c = λ before item e b s.
    refused_memory before item
    (checked_global before item c.args.tag _ e s ∙ ap (λ v. fault_of_global c.args.tag v c.args.self.now) (ap unsigned b) ∙ sym c.check_global.ensures ∙ c.in_default.is)
    (wants_global c.args.tag before item e c.in-Err.ensures.refused)
