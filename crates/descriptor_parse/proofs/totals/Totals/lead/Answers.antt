use Rattle.std.proofs.Common.{ap}
use Rattle.std.proofs.Math.Seq.{map-set_same}
use Rattle.descriptor_parse.specs.declared.totals.IdReports.{IdReports}
use Rattle.descriptor_parse.proofs.totals.Totals.lead.Goals as goal

pub returns-clause-bits : goal.returns-clause-bits
returns-clause-bits c = map-set_same (λ (r : IdReports). r.bits) c.args.self.now.by_id.items c.args.field.now.id _ c.index_mut.result.now (ap (λ (r : IdReports). r.bits) c.index_mut.ensures.value)
