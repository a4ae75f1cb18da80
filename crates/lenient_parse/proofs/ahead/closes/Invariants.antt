use Rattle.std.proofs.Common.{◌≡◌, ◌-◌, length}
use Rattle.std.specs.Prelude.{map, drop}
use Rattle.descriptor_parse.specs.ItemViews.{item_view}
use Rattle.lenient_parse.specs.Sets.{closes}
use Rattle.lenient_parse.proofs.ahead.closes.Given as goal

-- those that are passed say nothing
abbrev pub invariant-loop-item : goal.invariant-loop-item
invariant-loop-item l = closes (map item_view (drop l.at l.fn.items)) ≡ closes (map item_view l.fn.items)

abbrev pub decreases-loop-item : goal.decreases-loop-item
decreases-loop-item l = length l.fn.items - l.at
