use Rattle.std.proofs.Common.{refl}
use Rattle.reports.specs.declared.Input.TheVariants.{Boot, One, Two}
use Rattle.reports.proofs.Rule.{sent-nothing, fresh-refines}
use Rattle.reports.proofs.poller.Poller.new.Goals as goal

pub returns-clause-refines : goal.returns-clause-refines
returns-clause-refines c = fresh-refines _ record {
  boot = sent-nothing Boot _ c.unused.ensures.bytes c.unused.ensures.age;
  one = sent-nothing One _ c.unused-2.ensures.bytes c.unused-2.ensures.age;
  two = sent-nothing Two _ c.unused-3.ensures.bytes c.unused-3.ensures.age;
  sent_last = refl;
  queue = c.in_ok-queue.ensures;
} c.of.ensures c.of-2.ensures

pub returns-clause-made : goal.returns-clause-made
returns-clause-made c = record { are = (c.unused-2.ensures.made, c.unused-3.ensures.made) }
