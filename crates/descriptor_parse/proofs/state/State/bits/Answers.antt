use Rattle.std.proofs.Common.{◌∙◌, ap}
use Rattle.descriptor_parse.specs.Fields.{report_bits}
use Rattle.descriptor_parse.proofs.state.State.bits.Goals as goal

pub returns : goal.returns
returns c = λ before s. c.bits.ensures ∙ s.reports.bits c.args.kind _ ∙ ap (λ g. report_bits c.args.kind g.id before) s.globals.now
