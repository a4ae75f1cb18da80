use Rattle.std.proofs.Common.{◌≡◌, ◌-◌, length}
use Rattle.std.specs.Prelude.{map, drop}
use Rattle.descriptor_parse.specs.ItemViews.{item_view}
use Rattle.lenient_parse.specs.Late.{next_is_data}
use Rattle.lenient_parse.proofs.ahead.next_is_data.Given as goal

-- those that are passed say nothing
abbrev pub invariant-loop-item : goal.invariant-loop-item
invariant-loop-item l = next_is_data (map item_view (drop l.at l.fn.items)) ≡ next_is_data (map item_view l.fn.items)

abbrev pub decreases-loop-item : goal.decreases-loop-item
decreases-loop-item l = length l.fn.items - l.at
