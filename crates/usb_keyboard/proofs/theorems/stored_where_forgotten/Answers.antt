use Rattle.usb_keyboard.proofs.Forgotten as forgotten
use Rattle.usb_keyboard.proofs.theorems.stored_where_forgotten.Goals as goal

pub returns : goal.returns
returns c = forgotten.stored_where_forgotten
