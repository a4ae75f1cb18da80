use Rattle.keyboard.proofs.Sounding.{keeps_sound}
use Rattle.keyboard.proofs.theorems.headers_stay_sound.Goals as goal

pub returns : goal.returns
returns c defaults start past h = keeps_sound defaults start past h
