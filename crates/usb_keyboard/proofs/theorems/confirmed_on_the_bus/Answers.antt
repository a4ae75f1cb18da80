use Rattle.keyboard.proofs.Confirming as keyboard
use Rattle.usb_keyboard.proofs.Confirming.{confirmed}
use Rattle.usb_keyboard.proofs.theorems.confirmed_on_the_bus.Goals as goal

pub returns : goal.returns
returns c = λ defaults start past setup data_ command conforming w b.
    let at = confirmed past setup data_ command w b.named b.read in
    (at.0, at.1, keyboard.confirmed defaults start past at.0 command conforming at.1)
