use Rattle.std.proofs.Common.{refl, ap, sym, ◌∙◌}
use Rattle.descriptor_parse.specs.representation.LocalsRefine.{fault_of_local}
use Rattle.descriptor_parse.proofs.GlobalLemmas.{refine_other, is_global}
use Rattle.descriptor_parse.proofs.ReportLemmas.{refine_neutral, is_neutral}
use Rattle.descriptor_parse.proofs.StateLemmas.{checked_local, refine_plain, local_no_collection, wants_local}
use Rattle.descriptor_parse.proofs.FaultLemmas.{refused_for, refused_memory}
use Rattle.descriptor_parse.proofs.state.State.step_local.Goals as goal

pub returns-in-Some-clause-refused : goal.returns-in-Some-clause-refused
returns-in-Some-clause-refused c = λ before item e u s.
    refused_for before item _ (checked_local before item c.args.tag _ e s.locals ∙ ap (λ v. fault_of_local c.args.tag v c.args.self.now.locals.half) u ∙ sym c.check.ensures ∙ c.in-Some.is)

pub returns-in-Ok-clause-taken : goal.returns-in-Ok-clause-taken
returns-in-Ok-clause-taken c = λ before item e u s.
    let plain = local_no_collection item c.args.tag e in
    record {
      clean = checked_local before item c.args.tag _ e s.locals ∙ ap (λ v. fault_of_local c.args.tag v c.args.self.now.locals.half) u ∙ sym c.check.ensures ∙ c.in_default.is;
      refines = refine_plain before item c.args.self.now _ plain.0 plain.1 (refine_other before item _ (ap is_global e) s.globals)
          (c.in-Ok.ensures.taken before item e u s.locals) (refine_neutral before item _ (ap is_neutral e) s.reports) refl s;
    }

pub returns-in-Err-clause-refused : goal.returns-in-Err-clause-refused
returns-in-Err-clause-refused c = λ before item e u s.
    refused_memory before item
    (checked_local before item c.args.tag _ e s.locals ∙ ap (λ v. fault_of_local c.args.tag v c.args.self.now.locals.half) u ∙ sym c.check.ensures ∙ c.in_default.is)
    (wants_local c.args.tag before item _ e s.locals c.in-Err.ensures.refused)
