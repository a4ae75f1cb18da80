use Rattle.std.proofs.Common.{rules}
use Rattle.control_ep.proofs.why.WhyFromKeymapError.from.Goals as goal

pub returns-in-BadKey : goal.returns-in-BadKey
returns-in-BadKey c = search rules
