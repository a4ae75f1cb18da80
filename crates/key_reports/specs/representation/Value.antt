-- Representation: the parts of the keys.
use Rattle.debounce.specs.representation.Kept as debounce
use Rattle.layers.specs.representation.HeldRelation.{HeldValue}
use Rattle.reports.specs.representation.Kept as reports

-- what the keys keep; callers know it only by the calls that it refines
pub record KeysValue : Type 0 where
  pub debouncer : debounce.Kept
  pub held : HeldValue
  pub poller : reports.Kept
