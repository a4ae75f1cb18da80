use Rattle.std.proofs.Common.{rules}
use Rattle.debounce.proofs.Rows.{has-none}
use Rattle.script.proofs.KeyLemmas.{named_none, named_more, named_bad}
use Rattle.script.proofs.keys.keys.Goals as goal

pub loop-word-init : goal.loop-word-init
loop-word-init c = rw c.into_iter-word-iterator.ensures.into_iter_gives (named_none _ _ has-none)

pub loop-word-preserved : goal.loop-word-preserved
loop-word-preserved c =
    named_more _ _ _ _ _ _ _ _ c.loop-word.invariant c.in-Some.ensures.steps c.in_ok-number.ensures.0 c.in_ok-number.ensures.1 (λ key l. c.with-scan.ensures key l)

pub returns-in_err-number : goal.returns-in_err-number
returns-in_err-number c =
    let reported = c.in_err-number.ensures.0 in
    let bad = named_bad _ _ _ _ _ _ c.loop-word.invariant c.in-Some.ensures.steps c.in_err-number.ensures.1 in
    search rules
