use Rattle.usb_keyboard.proofs.Seen.{locked, paced, from_start}
use Rattle.usb_keyboard.proofs.theorems.accepted_behind_a_guard.Goals as goal

pub returns-clause-locked : goal.returns-clause-locked
returns-clause-locked c = locked

pub returns-clause-paced : goal.returns-clause-paced
returns-clause-paced c = paced

pub returns-clause-since_start : goal.returns-clause-since_start
returns-clause-since_start c = from_start
