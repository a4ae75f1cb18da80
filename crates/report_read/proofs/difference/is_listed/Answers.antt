use Rattle.std.proofs.Common.{◌∙◌}
use Rattle.report_read.proofs.Kept.{by_search}
use Rattle.report_read.proofs.difference.is_listed.Goals as goal

pub returns : goal.returns
returns c = c.is_ok.ensures.value ∙ by_search c.args.usages.now c.args.usage c.binary_search.result c.binary_search.ensures.position c.requires
