use Rattle.layers.specs.Usages.{has_key, has_consumer}
use Rattle.layers.proofs.usages.Usages.add.Goals as goal

pub returns-clause-keys : goal.returns-clause-keys
unfolding has_key
returns-clause-keys c usage = rw (← c.self.view_is) (c.insert_key_usage.ensures usage)

pub returns-clause-consumer : goal.returns-clause-consumer
unfolding has_consumer
returns-clause-consumer c usage = rw (← c.self.view_is) (c.insert_consumer.ensures.adds usage)
