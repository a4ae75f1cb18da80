use Rattle.world.proofs.Typed.{holds, broken}
use Rattle.world.proofs.examples.pad.a_host_reads_a_code_of_the_maker.Goals as goal

pub returns-clause-holds : goal.returns-clause-holds
returns-clause-holds c pages = holds pages

pub returns-clause-broken : goal.returns-clause-broken
returns-clause-broken c pages h = broken pages h
