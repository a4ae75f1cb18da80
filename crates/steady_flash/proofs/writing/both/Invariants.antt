use Rattle.std.proofs.Common.{◌≡◌, ◌<◌, ◌≤◌, ℕ, get_or, bit_and}
use Rattle.steady_flash.proofs.writing.both.Given as goal

abbrev pub invariant-loop-k : goal.invariant-loop-k
invariant-loop-k l = record {
  done : (k : ℕ) → k < l.k → get_or l.after k 0 ≡ bit_and (get_or l.fn.held k 0) (get_or l.bytes k 0);
  left : (k : ℕ) → l.k ≤ k → get_or l.after k 0 ≡ get_or l.fn.held k 0;
}
