use Rattle.std.proofs.Common.{◌≡◌, ◌++◌, map, take}
use Rattle.descriptor_parse.specs.representation.LocalsRefine.{range_on}
use Rattle.descriptor_parse.specs.representation.CountsRefine.{wrapped_counts}
use Rattle.descriptor_parse.proofs.CountLemmas.{last_count}
use Rattle.descriptor_parse.proofs.locals.Locals.append_to.Given as goal

-- the ranges so far, and their counts
abbrev pub invariant-loop-range : goal.invariant-loop-range
invariant-loop-range l = record {
  ranges : l.ranges.items ≡ l.initial.ranges.items ++ map (range_on l.page) (take l.range-index l.self.usages.items);
  counts : l.counts.items ≡ l.initial.counts.items ++ wrapped_counts 0 (map (range_on l.page) (take l.range-index l.self.usages.items));
  last : l.count ≡ last_count 0 (map (range_on l.page) (take l.range-index l.self.usages.items));
}
