use Rattle.std.proofs.Common.{refl, ◌∙◌}
use Rattle.reports.specs.declared.Input.TheVariants.{Boot, One, Two}
use Rattle.reports.proofs.Rule.{sent-nothing}
use Rattle.reports.proofs.poller.Poller.clear.Goals as goal

pub returns-clause-cleared : goal.returns-clause-cleared
returns-clause-cleared c = record {
  boot = sent-nothing Boot _ (c.send.ensures.bytes ∙ c.unused.ensures) c.send.ensures.age;
  one = sent-nothing One _ (c.send-2.ensures.bytes ∙ c.unused-2.ensures) c.send-2.ensures.age;
  two = sent-nothing Two _ (c.send-3.ensures.bytes ∙ c.unused-3.ensures) c.send-3.ensures.age;
  sent_last = refl;
  queue = c.clear.ensures;
}
