use Rattle.std.proofs.Common.{rules}
use Rattle.ecc_flash.proofs.paired.PairedFlash.mount.Goals as goal

pub returns : goal.returns
returns g c = search rules
