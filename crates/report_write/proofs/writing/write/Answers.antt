use Rattle.std.proofs.Common.{arith}
use Rattle.std.proofs.lemmas.Grind.{common_steps}
use Rattle.report_write.proofs.Knowing.{are_one}
use Rattle.report_write.proofs.writing.write.Goals as goal

pub returns-clause-written : goal.returns-clause-written
returns-clause-written c = grind (arith, common_steps)

pub set_all-requires-clause-hints : goal.set_all-requires-clause-hints
set_all-requires-clause-hints c = rw c.deref-4.ensures.value (rw (c.deref-2.ensures.value) at c.in_ok-hints.ensures)

pub set_all-requires-clause-one : goal.set_all-requires-clause-one
set_all-requires-clause-one c =
    rw (c.deref-4.ensures.value, c.in_ok-kept.ensures.fields) (are_one c.args.descriptor.now c.args.null_states.now c.args.kind c.args.id)
