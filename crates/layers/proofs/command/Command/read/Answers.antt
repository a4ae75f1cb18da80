use Rattle.std.proofs.Common.{rules}
use Rattle.layers.proofs.command.Command.read.Goals as goal

pub returns-in_err-read-in-1-clause-value : goal.returns-in_err-read-in-1-clause-value
returns-in_err-read-in-1-clause-value c = search rules
