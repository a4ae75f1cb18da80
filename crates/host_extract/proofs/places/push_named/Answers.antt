use Rattle.std.proofs.Common.{rules}
use Rattle.host_extract.proofs.places.push_named.Goals as goal

pub returns-in_ok-push-in-Some : goal.returns-in_ok-push-in-Some
returns-in_ok-push-in-Some c = search rules
