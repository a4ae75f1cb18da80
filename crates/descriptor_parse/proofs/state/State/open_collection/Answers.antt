use Rattle.std.proofs.Common.{ap, arith}
use Rattle.descriptor_parse.specs.Tags.{is_main}
use Rattle.descriptor_parse.proofs.GlobalLemmas.{refine_other, is_global}
use Rattle.descriptor_parse.proofs.ReportLemmas.{refine_neutral, is_neutral}
use Rattle.descriptor_parse.proofs.LocalLemmas.{refine_main}
use Rattle.descriptor_parse.proofs.StateLemmas.{refine_opened}
use Rattle.descriptor_parse.proofs.state.State.open_collection.Goals as goal

pub returns : goal.returns
returns c = λ before item e room s.
    let now = s.collections in
    refine_opened before item c.args.self.now _ e (refine_other before item _ (ap is_global e) s.globals)
    (refine_main before item _ (ap is_main e) c.clear.ensures.half c.clear.ensures.usages) (refine_neutral before item _ (ap is_neutral e) s.reports) (omega (arith, c.saturating_add-self.ensures)) s
