use Rattle.steady_flash.proofs.making.make.Goals as goal

pub returns-in-Ok-clause-settled : goal.returns-in-Ok-clause-settled
returns-in-Ok-clause-settled g c = c.start.ensures.told (rw c.make_pages.ensures.same_size c.in-Ok.ensures.told)
