use Rattle.std.proofs.Common.{◌≡◌, ◌-◌, length}
use Rattle.settings.specs.Settings.{settings_of}
use Rattle.settings.proofs.Tables.{Filled}
use Rattle.settings.proofs.table.fill_table.Given as goal

abbrev pub invariant-loop-at : goal.invariant-loop-at
invariant-loop-at g l = (length l.table ≡ length l.fn.table) × Filled (settings_of (g.F.NorFlash.image l.flash)) l.table l.at l.from

abbrev pub decreases-loop-at : goal.decreases-loop-at
decreases-loop-at g l = length l.table - l.at
