use Rattle.std.proofs.Common.{◌∷◌, sym, subst}
use Rattle.keyboard.specs.Calls.{Scanned}
use Rattle.usb_keyboard.specs.representation.Relation.{RunsSince}
use Rattle.usb_keyboard.proofs.device.UsbKeyboardOfScansMatrix.scan.Goals as goal

pub returns-clause-refines : goal.returns-clause-refines
returns-clause-refines g c = λ calls s.
    let r = subst (λ v. RunsSince g.D.Defaults.defaults s.0 s.1 v.0 (g.F.NorFlash.image v.1)) (sym c.self.view_is) s.2 in
    (s.0, Scanned (record { rows = c.args.rows }) ∷ s.1, record { refines = c.scan.ensures.refines s.0 s.1 r.refines; image_is = r.image_is }, s.3)
