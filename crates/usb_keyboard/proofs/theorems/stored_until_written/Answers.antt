use Rattle.usb_keyboard.proofs.Keeping.{has_confirmed, has_later}
use Rattle.usb_keyboard.proofs.theorems.stored_until_written.Goals as goal

pub returns-clause-session : goal.returns-clause-session
returns-clause-session c = λ defaults start past before command layer key code conforming d l k w n. has_confirmed defaults start past before command layer key code l k conforming d w n

pub returns-clause-later : goal.returns-clause-later
returns-clause-later c = λ defaults since earlier session layer key code f l k n h. has_later defaults since earlier session layer key code l k f n h
