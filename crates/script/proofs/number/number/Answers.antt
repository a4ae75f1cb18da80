use Rattle.std.proofs.Common.{refl}
use Rattle.script.proofs.NumberLemmas.{IsUtf8-digits}
use Rattle.script.proofs.number.number.Goals as goal

pub returns-in_default : goal.returns-in_default
returns-in_default c = (refl, λ h. c.in_default.ensures.cases.0 (IsUtf8-digits c.args.word.now h.0.1))
