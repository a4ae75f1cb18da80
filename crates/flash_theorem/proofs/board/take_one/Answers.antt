use Rattle.flash_theorem.proofs.board.take_one.Goals as goal

pub returns-in-Work-clause-leaves : goal.returns-in-Work-clause-leaves
returns-in-Work-clause-leaves g c first past s = rw c.in-Work.is (c.worked-reported.ensures.leaves first past _ s)
