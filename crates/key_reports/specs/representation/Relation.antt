-- Representation: what is kept refines a past. It holds of new keys, and each call keeps it.
use Rattle.std.specs.Prelude.{◌≡◌, ℕ, ◌<◌, not, List, ◌∷◌}
use Rattle.debounce.specs.declared.Scan.{Scan}
use Rattle.debounce.specs.Scans.{has}
use Rattle.debounce.specs.Samples.{down, same}
use Rattle.debounce.specs.representation.Relation as debounce
use Rattle.layers.specs.representation.HeldRelation.{HeldRefines}
use Rattle.reports.specs.representation.Relation as reports
use Rattle.key_reports.specs.Calls.{KeyCall}
use Rattle.key_reports.specs.Past.{scans_of, held_calls, poller_calls, wanted_after}
use Rattle.key_reports.specs.representation.Value.{KeysValue}

-- what is kept refines these calls, newest first: each part refines its own among them, and the bytes that were
-- made last are those that the reports have after them
pub record Refines (past : List KeyCall) (value : KeysValue) : Type 0 where
  pub debouncer : debounce.Refines (scans_of past) value.debouncer
  pub held : HeldRefines (held_calls past) value.held
  pub poller : reports.Refines (poller_calls past) value.poller
  pub made : reports.IsMade (wanted_after past) value.poller

-- and where the debouncer has had one scan more, which changed these keys, but nothing else has
pub record IsFed (scan flips : Scan) (past : List KeyCall) (value : KeysValue) : Type 0 where
  pub debouncer : debounce.Refines (scan ∷ scans_of past) value.debouncer
  pub flips_are : (key : ℕ) → key < 96 → has flips key ≡ not (same (down (scans_of past) key) (down (scan ∷ scans_of past) key))
  pub held : HeldRefines (held_calls past) value.held
  pub poller : reports.Refines (poller_calls past) value.poller
  pub made : reports.IsMade (wanted_after past) value.poller
