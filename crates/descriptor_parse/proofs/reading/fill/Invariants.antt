use Rattle.std.proofs.Common.{◌≡◌, ◌≤◌, ◌++◌, length}
use Rattle.descriptor_parse.specs.Items.{item_size}
use Rattle.descriptor_parse.proofs.reading.fill.Given as goal

-- bytes were moved, no more than make the item whole
abbrev pub invariant-loop-rest : goal.invariant-loop-rest
invariant-loop-rest l = (l.part.items ++ l.rest ≡ l.fn.part.items ++ l.fn.piece)
    × (length l.fn.part.items ≤ item_size l.fn.part.items → length l.part.items ≤ item_size l.part.items)

abbrev pub decreases-loop-rest : goal.decreases-loop-rest
decreases-loop-rest l = length l.rest
