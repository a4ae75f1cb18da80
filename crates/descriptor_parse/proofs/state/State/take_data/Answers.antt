use Rattle.std.proofs.Common.{refl, ap}
use Rattle.descriptor_parse.specs.Tags.{is_collection, is_end_collection, is_main}
use Rattle.descriptor_parse.proofs.GlobalLemmas.{refine_other, is_global}
use Rattle.descriptor_parse.proofs.LocalLemmas.{refine_main}
use Rattle.descriptor_parse.proofs.StateLemmas.{refine_plain}
use Rattle.descriptor_parse.proofs.state.State.take_data.Goals as goal

pub returns-clause-taken : goal.returns-clause-taken
returns-clause-taken c = λ before item e u fits few s.
    refine_plain before item c.args.self.now _ (ap is_collection e) (ap is_end_collection e) (refine_other before item _ (ap is_global e) s.globals)
    (refine_main before item _ (ap is_main e) c.clear.ensures.half c.clear.ensures.usages) (c.in_ok-take.ensures.taken before item e u s.globals.now s.locals fits few s.reports) refl s
