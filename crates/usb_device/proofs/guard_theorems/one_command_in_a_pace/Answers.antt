use Rattle.usb_device.proofs.Pacing.{between, since_start}
use Rattle.usb_device.proofs.guard_theorems.one_command_in_a_pace.Goals as goal

pub returns-clause-between : goal.returns-clause-between
returns-clause-between c = between

pub returns-clause-since_start : goal.returns-clause-since_start
returns-clause-since_start c = since_start
