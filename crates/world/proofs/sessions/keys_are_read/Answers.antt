use Rattle.key_reports.specs.Past.{keys_after, consumer_after}
use Rattle.keyboard.specs.Keys.{key_calls}
use Rattle.world.proofs.Naming.{bitmap_names, boot_names, overflow_names, consumer_is_named, consumer_names, consumer_least, consumer_size}
use Rattle.world.proofs.All.{usages-rising}
use Rattle.std.specs.List.Sorted.{IsStrictlyIncreasing}
use Rattle.std.proofs.Common.{sym, subst, ℕ, List}
use Rattle.world.proofs.sessions.keys_are_read.Goals as goal

pub returns-clause-bitmap : goal.returns-clause-bitmap
returns-clause-bitmap c defaults start past bytes usages n i usage =
    bitmap_names (key_calls defaults start n.sent.moment) (consumer_after (key_calls defaults start n.sent.moment)) n.sent.input usages n.usages_are i usage

pub returns-clause-boot : goal.returns-clause-boot
returns-clause-boot c defaults start past bytes usages n i few usage =
    boot_names (key_calls defaults start n.sent.moment) (consumer_after (key_calls defaults start n.sent.moment)) n.sent.input usages n.usages_are i few usage

pub returns-clause-overflow : goal.returns-clause-overflow
returns-clause-overflow c defaults start past bytes usages n i many usage =
    overflow_names (key_calls defaults start n.sent.moment) (consumer_after (key_calls defaults start n.sent.moment)) n.sent.input usages n.usages_are i many usage

pub returns-clause-consumer : goal.returns-clause-consumer
returns-clause-consumer c defaults start past bytes usages n i usage named =
    consumer_is_named (key_calls defaults start n.sent.moment) (keys_after (key_calls defaults start n.sent.moment)) n.sent.input usages n.usages_are i usage named

pub returns-clause-all_consumer : goal.returns-clause-all_consumer
returns-clause-all_consumer c defaults start past bytes usages n i few usage named =
    consumer_names (key_calls defaults start n.sent.moment) (keys_after (key_calls defaults start n.sent.moment)) n.sent.input usages n.usages_are i few usage named

pub returns-clause-least_consumer : goal.returns-clause-least_consumer
returns-clause-least_consumer c defaults start past bytes usages n i usage lesser read named less =
    consumer_least (key_calls defaults start n.sent.moment) (keys_after (key_calls defaults start n.sent.moment)) n.sent.input usages n.usages_are i usage lesser read named less

pub returns-clause-count_consumer : goal.returns-clause-count_consumer
returns-clause-count_consumer c defaults start past bytes usages n i =
    consumer_size (consumer_after (key_calls defaults start n.sent.moment)) (keys_after (key_calls defaults start n.sent.moment)) n.sent.input usages n.usages_are i

pub returns-clause-rising : goal.returns-clause-rising
returns-clause-rising c defaults start past bytes usages n =
    subst (λ (l : List ℕ). IsStrictlyIncreasing l) (sym n.usages_are)
    (usages-rising (keys_after (key_calls defaults start n.sent.moment)) (consumer_after (key_calls defaults start n.sent.moment)) n.sent.input)
