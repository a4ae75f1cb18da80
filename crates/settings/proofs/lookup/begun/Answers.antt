use Rattle.std.proofs.Common.{refl}
use Rattle.settings.proofs.Reading.{begins_removal, begins_empty, begins_partial}
use Rattle.settings.proofs.lookup.begun.Goals as goal

pub returns-in-None-clause-outcome : goal.returns-in-None-clause-outcome
returns-in-None-clause-outcome c id word rest e = rw c.ended.ensures (begins_removal id c.args.value word rest (rw c.in-None.is at e))

pub returns-then-len-eq0-clause-outcome : goal.returns-then-len-eq0-clause-outcome
returns-then-len-eq0-clause-outcome c id word rest e =
    rw (c.ended-then-len-eq0.ensures, c.of_bytes.ensures) (begins_empty id c.args.value word rest (rw (c.in-Some.is, c.if-len-eq0.true) at e))

pub returns-else-len-eq0-clause-outcome : goal.returns-else-len-eq0-clause-outcome
returns-else-len-eq0-clause-outcome c id word rest e = begins_partial id c.args.value _ word rest refl (rw c.in-Some.is at e)
