use Rattle.layers.proofs.BitSets.{marked_more}
use Rattle.layers.proofs.usages.insert_consumer.Goals as goal

pub returns-in-Some-clause-marked : goal.returns-in-Some-clause-marked
returns-in-Some-clause-marked c a = marked_more c.args.set.now c.args.occupied.now c.insert.new.words c.insert-in-Some.new.words c.in-Some.usage c.insert.ensures c.insert-in-Some.ensures a
