use Rattle.std.proofs.Common.{◌≡◌}
use Rattle.settings.specs.Settings.{settings_of}
use Rattle.settings.specs.representation.Reading.{IsPartial, outcome}
use Rattle.settings.proofs.lookup.value_in.Given as goal

abbrev pub invariant-loop-word : goal.invariant-loop-word
invariant-loop-word g l = IsPartial l.reading.partial × (outcome l.id l.reading l.word-iterator ≡ settings_of (g.F.NorFlash.image l.flash) l.id)
