use Rattle.std.proofs.Common.{◌≡◌, ◌<◌, ◌^◌}
use Rattle.std.specs.Prelude.{IfSome}
use Rattle.settings_log.specs.Values.{newest_of}
use Rattle.settings_log.specs.representation.Ring.{IsBest}
use Rattle.settings_log.proofs.ring.newest.Given as goal

abbrev pub invariant-loop-page : goal.invariant-loop-page
invariant-loop-page g l = IfSome l.best (λ number. number < 2 ^ 28) × IsBest (g.F.NorFlash.image l.flash) l.page l.best × (l.best ≡ newest_of (g.F.NorFlash.image l.flash) l.page)
