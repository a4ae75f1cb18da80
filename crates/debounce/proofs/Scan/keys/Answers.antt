use Rattle.std.proofs.Common.{◌∙◌}
use Rattle.debounce.proofs.SetKeys.{keys-same}
use Rattle.debounce.proofs.Scan.keys.Goals as goal

pub returns : goal.returns
returns c = c.keys.ensures ∙ keys-same c.of.result c.args.self.now c.of.ensures
