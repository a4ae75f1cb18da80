use Rattle.std.proofs.Common.{None, arith}
use Rattle.settings_log.proofs.History.{found_alone, none_found}
use Rattle.settings_log.specs.Values.{heads_before, heads_on}
use Rattle.settings_log.proofs.scan.last_on.Goals as goal

pub returns-in_default : goal.returns-in_default
returns-in_default g c few = none_found c.args.id (heads_before (g.F.NorFlash.image c.args.flash.now) c.args.newest c.args.back) (c.in_default.ensures.heads few)

pub returns : goal.returns
returns g c few =
    found_alone c.args.id (heads_on (g.F.NorFlash.image c.args.flash.now) c.in-Some.page) (heads_before (g.F.NorFlash.image c.args.flash.now) c.args.newest c.args.back) _ _ c.unknown.ensures
    (c.find_on.ensures.each 0 (record { id = 0; found = None; coming = None }) (omega arith)) (c.in-Some.ensures.heads few)
