use Rattle.std.proofs.Common.{◌∙◌, sym, refl, arith}
use Rattle.std.proofs.lemmas.Bool.Decides.{nat_tests}
use Rattle.settings_log.proofs.Lookup.{value_same}
use Rattle.settings_log.proofs.store.holds.Goals as goal

pub returns-else-head-bytes : goal.returns-else-head-bytes
returns-else-head-bytes g c =
    let image = g.F.NorFlash.image c.args.flash.now in
    let s = c.in-Some-held.ensures.some in (
      (λ t. absurd (c.if-head-bytes.false (grind (arith, nat_tests, t)))),
      (λ h. absurd (value_same image c.args.change.now.id c.in-Some-held.place c.in-Some-held.head c.in-Some.bytes.now s (λ e. c.if-head-bytes.false (sym e))
          (h ∙ (rw c.in-Some.is refl)))),
    )
