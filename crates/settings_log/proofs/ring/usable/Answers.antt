use Rattle.std.proofs.Common.{arith, rules, ℕ}
use Rattle.settings_log.specs.Pages.{IsForeign}
use Rattle.settings_log.proofs.ring.usable.Goals as goal

pub returns-then-is_whole-clause-foreign : goal.returns-then-is_whole-clause-foreign
returns-then-is_whole-clause-foreign g c page f =
    absurd (c.loop-page.invariant page (omega (arith, f.in_pages, c.pages-page-end.ensures.count, c.loop-page-test.false, c.loop-page.auto.page-end)) f)

pub returns-else-is_whole-clause-foreign : goal.returns-else-is_whole-clause-foreign
returns-else-is_whole-clause-foreign g c page f =
    absurd (c.loop-page.invariant page (omega (arith, f.in_pages, c.pages-page-end.ensures.count, c.loop-page-test.false, c.loop-page.auto.page-end)) f)

pub returns-then-is_none-clause-damaged : goal.returns-then-is_none-clause-damaged
returns-then-is_none-clause-damaged g c none whole =
    let image = g.F.NorFlash.image c.args.flash.now in
    let found : ((page : ℕ) × IsForeign image page) = search rules in
    absurd (none found.0 found.1)

pub returns-then-is_none-clause-usable : goal.returns-then-is_none-clause-usable
returns-then-is_none-clause-usable g c none whole =
    let image = g.F.NorFlash.image c.args.flash.now in
    let found : ((page : ℕ) × IsForeign image page) = search rules in
    absurd (none found.0 found.1)
