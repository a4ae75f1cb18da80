use Rattle.std.proofs.Common.{◌≡◌, ◌++◌, ◌-◌, ◌≤◌}
use Rattle.std.specs.Prelude.{replicate}
use Rattle.lenient_parse.proofs.output.Output.put_origins.Given as goal

-- so many are noted
abbrev pub invariant-loop-done : goal.invariant-loop-done
invariant-loop-done l = record {
  text : l.self.text ≡ l.fn.self.text;
  origins : l.self.origins.items ≡ l.fn.self.origins.items ++ replicate l.done l.fn.offset;
  passed : l.self.passed ≡ l.fn.self.passed;
  most : l.done ≤ l.fn.count;
}

abbrev pub decreases-loop-done : goal.decreases-loop-done
decreases-loop-done l = l.fn.count - l.done
