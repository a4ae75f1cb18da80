use Rattle.std.proofs.Common.{rules}
use Rattle.ecc_flash.proofs.reading.is_blank.Goals as goal

pub returns-in-None : goal.returns-in-None
returns-in-None c = search rules
