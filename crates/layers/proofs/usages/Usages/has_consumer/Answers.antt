use Rattle.std.proofs.Common.{◌≤◌, ◌/◌, length, arith, sym, ◌∙◌}
use Rattle.std.proofs.lemmas.Bool.{le-ltb}
use Rattle.layers.specs.Usages.{has_consumer}
use Rattle.layers.proofs.BitSets.{has_bit-past}
use Rattle.layers.proofs.usages.Usages.has_consumer.Goals as goal

pub returns-then-usage-lt1024 : goal.returns-then-usage-lt1024
unfolding has_consumer
returns-then-usage-lt1024 c = rw (← c.self.view_is) c.contains.ensures

pub returns-else-usage-lt1024 : goal.returns-else-usage-lt1024
unfolding has_consumer
returns-else-usage-lt1024 c =
    let past : length c.self.inside.consumer ≤ c.args.usage / 32 = omega (arith, c.self.invariant.1, c.if-usage-lt1024.false) in
    rw (← c.self.view_is) (le-ltb c.args.usage 1024 c.if-usage-lt1024.false ∙ sym (has_bit-past 32 c.self.inside.consumer c.args.usage past))
