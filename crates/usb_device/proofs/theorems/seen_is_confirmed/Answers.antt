use Rattle.usb_device.proofs.Linked.{seen_confirmed, last_counts}
use Rattle.usb_device.proofs.theorems.seen_is_confirmed.Goals as goal

pub returns-clause-confirmed : goal.returns-clause-confirmed
returns-clause-confirmed c = seen_confirmed

pub returns-clause-last_counts : goal.returns-clause-last_counts
returns-clause-last_counts c = last_counts
