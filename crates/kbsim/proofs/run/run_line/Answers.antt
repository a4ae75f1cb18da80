use Rattle.kbsim.proofs.run.run_line.Goals as goal

pub returns-in-One : goal.returns-in-One
returns-in-One g c = rw c.in-One.is c.act.ensures

pub returns-in-Fetch : goal.returns-in-Fetch
returns-in-Fetch g c = rw c.in-Fetch.is c.fetch.ensures
