use Rattle.debounce.proofs.SetKeys.{NoneBefore}
use Rattle.debounce.proofs.keys.KeysIterator.next.Given as goal

abbrev pub invariant-loop-word : goal.invariant-loop-word
invariant-loop-word l = NoneBefore l.self-inside.left l.word l.fn.self
