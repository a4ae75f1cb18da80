use Rattle.std.proofs.Common.{rules, refl, ◌∙◌, arith}
use Rattle.debounce.proofs.SetKeys.{keys-first, keys-none}
use Rattle.debounce.proofs.keys.KeysIterator.next.Goals as goal

pub returns-then-set-ne0-clause-steps : goal.returns-then-set-ne0-clause-steps
returns-then-set-ne0-clause-steps c = c.loop-word.invariant.same ∙ keys-first c.loop-word.self-inside.left c.loop-word.word _ c.loop-word.invariant.three c.loop-word-test.true (omega arith) c.if-set-ne0.true c.loop-word.invariant.none refl

pub returns-then-set-ne0-clause-goes : goal.returns-then-set-ne0-clause-goes
returns-then-set-ne0-clause-goes c = rw (c.loop-word.invariant.same ∙ keys-first c.loop-word.self-inside.left c.loop-word.word _ c.loop-word.invariant.three c.loop-word-test.true (omega arith) c.if-set-ne0.true c.loop-word.invariant.none refl) (search rules)

pub returns-clause-steps : goal.returns-clause-steps
returns-clause-steps c =
    let none = keys-none c.loop-word.self-inside.left c.loop-word.word c.loop-word-test.false c.loop-word.invariant.none in
    (c.loop-word.invariant.same ∙ none, none)
