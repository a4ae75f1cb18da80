use Rattle.std.proofs.Common.{◌≡◌, ◌+◌, ◌-◌, ◌++◌, ◌≤◌, length, true, if◌then◌else◌}
use Rattle.descriptor_parse.specs.Descriptor.{count_up, usage_list}
use Rattle.descriptor_parse.proofs.readers.Usages.take.Given as goal

-- the usages that are left stay the same
abbrev pub invariant-loop-self : goal.invariant-loop-self
invariant-loop-self l = record {
  left : count_up l.self-inside.next (if l.self-inside.in_hand then l.self-inside.last + 1 - l.self-inside.next else 0) ++ usage_list l.self-inside.rest.now ≡ l.fn.self;
  within : l.self-inside.in_hand ≡ true → l.self-inside.next ≤ l.self-inside.last;
}

abbrev pub decreases-loop-self : goal.decreases-loop-self
decreases-loop-self l = length l.self-inside.rest.now
