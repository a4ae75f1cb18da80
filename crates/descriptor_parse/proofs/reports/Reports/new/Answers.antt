use Rattle.std.proofs.Common.{refl, ap}
use Rattle.descriptor_parse.specs.representation.Linked.{ends_of}
use Rattle.descriptor_parse.proofs.ReportLemmas.{refine_new}
use Rattle.descriptor_parse.proofs.reports.Reports.new.Goals as goal

pub returns : goal.returns
returns c = refine_new _ c.new.ensures.bits c.new.ensures.first c.new-2.ensures.items (ap ends_of c.new-3.ensures.items) c.new-4.ensures.items c.new-5.ensures.items refl refl
