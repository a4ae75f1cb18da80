use Rattle.std.specs.Prelude.{◌==◌, ◌&&◌}
use Rattle.descriptor_parse.specs.Tags.{same_kind}
use Rattle.descriptor_parse.proofs.TotalLemmas.{added_none}
use Rattle.descriptor_parse.proofs.totals.Totals.add.Goals as goal

pub returns-then-more-eq0-clause-added : goal.returns-then-more-eq0-clause-added
returns-then-more-eq0-clause-added c = λ k i l. added_none (same_kind k c.args.kind && c.args.id == i) _ c.args.more c.if-more-eq0.true l
