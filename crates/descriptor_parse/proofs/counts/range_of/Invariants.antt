use Rattle.std.proofs.Common.{◌-◌, ◌≤◌, ◌<◌, ◌==◌, length, slice_index, if◌then◌else◌}
use Rattle.descriptor_parse.proofs.counts.range_of.Given as goal

-- the range is one from low to high
abbrev pub invariant-loop-low : goal.invariant-loop-low
invariant-loop-low l = record {
  order : l.low ≤ l.high;
  within : l.high ≤ length l.counts;
  below : (if l.low == 0 then 0 else slice_index l.counts (l.low - 1)) ≤ l.number;
  above : l.high < length l.counts → l.number < slice_index l.counts l.high;
}

abbrev pub decreases-loop-low : goal.decreases-loop-low
decreases-loop-low l = l.high - l.low
