use Rattle.std.proofs.Common.{◌≡◌, ℕ, ◌+◌, ◌-◌, get_or, length}
use Rattle.descriptor_parse.specs.representation.Totals.{no_reports}
use Rattle.descriptor_parse.proofs.totals.Totals.fill_to.Given as goal

abbrev pub invariant-loop-self : goal.invariant-loop-self
invariant-loop-self l = (i : ℕ) → get_or l.self.by_id.items i no_reports ≡ get_or l.initial.self.by_id.items i no_reports

abbrev pub decreases-loop-self : goal.decreases-loop-self
decreases-loop-self l = l.place + 1 - length l.self.by_id.items
