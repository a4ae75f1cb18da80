use Rattle.std.proofs.Common.{rules, ◌≡◌, true, false, ap, refl}
use Rattle.ecc_flash.proofs.paired.PairedFlash.format.Goals as goal

pub loop-page-init : goal.loop-page-init
loop-page-init g c = search rules

pub returns-in_err-erase_units-clause-healthy : goal.returns-in_err-erase_units-clause-healthy
returns-in_err-erase_units-clause-healthy g c h =
    let ok : false ≡ true = (c.in_err-erase_units.ensures.healthy (c.loop-page.invariant.healthy h)).0 in
    cc

pub returns-clause-healthy : goal.returns-clause-healthy
returns-clause-healthy g c h = (refl, rw c.mount.ensures (c.loop-page.invariant.healthy h))
