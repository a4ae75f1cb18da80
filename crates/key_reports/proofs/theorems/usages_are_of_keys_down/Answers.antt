use Rattle.key_reports.proofs.Pressed.{keys_after-some, consumer_after-some}
use Rattle.key_reports.proofs.theorems.usages_are_of_keys_down.Goals as goal

pub returns-clause-keys : goal.returns-clause-keys
returns-clause-keys c past usage = keys_after-some past usage

pub returns-clause-consumer : goal.returns-clause-consumer
returns-clause-consumer c past usage = consumer_after-some past usage
