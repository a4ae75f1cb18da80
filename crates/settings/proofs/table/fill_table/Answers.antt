use Rattle.std.proofs.Common.{◌∙◌, refl, arith}
use Rattle.std.proofs.lemmas.List.{length-set}
use Rattle.settings.specs.Settings.{settings_of}
use Rattle.settings.proofs.Tables.{filled_none, filled_more, filled_all, filled_fits, filled_short}
use Rattle.settings.proofs.table.fill_table.Goals as goal

pub loop-at-init : goal.loop-at-init
loop-at-init g c = (refl, filled_none (settings_of (g.F.NorFlash.image c.args.flash.now)) c.args.table.now)

pub loop-at-preserved : goal.loop-at-preserved
loop-at-preserved g c =
    let values = settings_of (g.F.NorFlash.image c.args.flash.now) in
    let l = c.loop-at.invariant in (
      length-set c.loop-at.table c.loop-at.at c.entry_from-entry.result ∙ l.0,
      rw c.end_of-from.ensures (filled_more values c.loop-at.table c.loop-at.at c.loop-at.from c.entry_from-entry.result (omega (arith, c.loop-at-test.true)) l.1 c.entry_from-entry.ensures),
    )

pub returns-in-Some-clause-fits : goal.returns-in-Some-clause-fits
returns-in-Some-clause-fits g c =
    let values = settings_of (g.F.NorFlash.image c.args.flash.now) in
    let l = c.loop-at.invariant in (
      λ e. cc,
      λ few. absurd (filled_short values c.loop-at.table c.loop-at.at c.loop-at.from c.entry_from.result _ (omega (arith, c.loop-at-test.false)) l.1 c.entry_from.ensures c.in-Some.is (omega (arith, few, l.0))),
    )

pub returns-in-None-clause-mirrors : goal.returns-in-None-clause-mirrors
returns-in-None-clause-mirrors g c e =
    filled_all (settings_of (g.F.NorFlash.image c.args.flash.now)) c.loop-at.table c.loop-at.at c.loop-at.from c.entry_from.result (omega (arith, c.loop-at-test.false)) c.loop-at.invariant.1 c.entry_from.ensures c.in-None.is

pub returns-in-None-clause-fits : goal.returns-in-None-clause-fits
returns-in-None-clause-fits g c =
    let fits = filled_fits (settings_of (g.F.NorFlash.image c.args.flash.now)) c.loop-at.table c.loop-at.at c.loop-at.from c.entry_from.result (omega (arith, c.loop-at-test.false)) c.loop-at.invariant.1 c.entry_from.ensures c.in-None.is in
    (λ e. omega (arith, fits, c.loop-at.invariant.0), λ few. refl)
