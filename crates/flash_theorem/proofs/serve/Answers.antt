use Rattle.std.proofs.Common.{◌∷◌, ◌++◌, ◌∙◌, ℕ, List, subst}
use Rattle.keyboard.specs.Calls.{Call, SetUp, Out, In}
use Rattle.keyboard.specs.Conforming.{IsConforming}
use Rattle.keyboard.specs.Progress.{set_feature}
use Rattle.flash_theorem.proofs.serve.Goals as goal

pub returns : goal.returns
returns g c = record {
  served = λ start past x y z v w command s i h ready r k n.
      let before : List Call = Out c.args.report c.out-given.result ∷ SetUp set_feature ∷ past in
      let there = c.run.ensures.whole start before (c.out-given.ensures.refines start (SetUp set_feature ∷ past) (c.setup.ensures.refines start past s)) i h in
      let all = c.in_packet-status.ensures.refines start (there.0 ++ before) there.4 in
      let conforming = subst (λ (l : List ℕ). IsConforming g.D.Defaults.defaults start (In c.in_packet-status.result ∷ there.0 ++ Out l c.out-given.result ∷ SetUp set_feature ∷ past)) r all.answered in
      (there.0, c.a_command_is_served.ensures.served g.D.Defaults.defaults start past there.0 x y z v w c.out-given.result c.in_packet-status.result command ready k there.1 (there.2 ∙ n) conforming, there.2, there.3, all);
}
