use Rattle.usb_keyboard.proofs.Forgotten as forgotten
use Rattle.usb_keyboard.proofs.theorems.accepted_where_forgotten.Goals as goal

pub returns-clause-since : goal.returns-clause-since
returns-clause-since c = forgotten.since

pub returns-clause-locked : goal.returns-clause-locked
returns-clause-locked c = forgotten.locked

pub returns-clause-paced : goal.returns-clause-paced
returns-clause-paced c = forgotten.paced

pub returns-clause-since_start : goal.returns-clause-since_start
returns-clause-since_start c = forgotten.since_start
