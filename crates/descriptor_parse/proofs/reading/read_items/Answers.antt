use Rattle.std.proofs.lemmas.Result.{err_from_is_err_and}
use Rattle.descriptor_parse.proofs.reading.read_items.Goals as goal

pub returns-in_err-at-clause-refused : goal.returns-in_err-at-clause-refused
returns-in_err-at-clause-refused c =
    let p = err_from_is_err_and c.from_residual.result c.from_residual.ensures.1 in
    rw (p.1, p.2) (λ text a.
    c.in_err-at.ensures.refused text c.loop-item.rest.now c.loop-item.at (c.loop-item.invariant text a)
    (record { whole = c.in-Some.ensures.size; is = c.in-Some.ensures.item }) c.in-Some.ensures.taken)

pub loop-item-preserved : goal.loop-item-preserved
loop-item-preserved c = λ text a.
    rw (c.in-Some.ensures.rest, ← c.in-Some.ensures.taken) (c.in_ok-at.ensures.taken text c.loop-item.rest.now c.loop-item.at (c.loop-item.invariant text a)
    (record { whole = c.in-Some.ensures.size; is = c.in-Some.ensures.item }) c.in-Some.ensures.taken)
