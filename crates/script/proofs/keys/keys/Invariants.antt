use Rattle.std.proofs.Common.{map}
use Rattle.script.specs.Words.{words}
use Rattle.script.proofs.KeyLemmas.{NamedSoFar}
use Rattle.script.proofs.keys.keys.Given as goal

abbrev pub invariant-loop-word : goal.invariant-loop-word
invariant-loop-word l =
    NamedSoFar (words l.fn.rest.rest.now) (map (λ x. x.now) l.yielded) (words l.word-iterator.rest.now) l.scan
