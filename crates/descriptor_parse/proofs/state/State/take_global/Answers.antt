use Rattle.std.proofs.Common.{refl, ap, ◌∙◌, sym, ◌≡◌, None}
use Rattle.descriptor_parse.specs.Globals.{unsigned}
use Rattle.descriptor_parse.specs.representation.StateRefines.{fault_of_global}
use Rattle.descriptor_parse.proofs.LocalLemmas.{refine_silent, is_silent}
use Rattle.descriptor_parse.proofs.StateLemmas.{checked_global, refine_plain, global_no_collection, small_id}
use Rattle.descriptor_parse.proofs.state.State.take_global.Goals as goal

pub returns-clause-taken : goal.returns-clause-taken
returns-clause-taken c = λ before item e b s clean.
    let none : fault_of_global c.args.tag (unsigned item.bytes) c.args.self.now ≡ None = sym (checked_global before item c.args.tag _ e s) ∙ clean in
    let plain = global_no_collection item c.args.tag e in
    refine_plain before item c.args.self.now _ plain.0 plain.1
    (c.in_ok-take_global.ensures.taken before item e b (small_id c.args.tag (unsigned item.bytes) _ none) s.globals)
    (refine_silent before item _ (ap is_silent e) s.locals) (c.note.ensures before item e s.reports) refl s
