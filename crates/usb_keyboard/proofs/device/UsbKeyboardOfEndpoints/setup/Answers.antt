use Rattle.std.proofs.Common.{◌∷◌, List, ℕ, sym, subst, ap}
use Rattle.usb_device.specs.Calls as Eps
use Rattle.keyboard.specs.Calls as Keyboards
use Rattle.usb_keyboard.specs.representation.Relation.{RunsSince}
use Rattle.usb_keyboard.proofs.device.UsbKeyboardOfEndpoints.setup.Goals as goal

pub returns : goal.returns
returns g c =
    let reported : (start : List ℕ) (past : List Keyboards.Call) → RunsSince g.D.Defaults.defaults start past c.args.self.now.0 (g.F.NorFlash.image c.args.self.now.1)
    → RunsSince g.D.Defaults.defaults start (Keyboards.SetUp c.args.packet ∷ past) (g.K.HoldsKeyboard.held c.setup.new.self) (g.F.NorFlash.image c.self.inside.flash) = λ start past r.
    let s = subst (λ v. RunsSince g.D.Defaults.defaults start past v.0 (g.F.NorFlash.image v.1)) (sym c.self.view_is) r in
    record { refines = c.setup.ensures.refines start past s.refines; image_is = s.image_is } in
    record {
      reported = reported;
      refines = λ calls s. (s.0, Keyboards.SetUp c.args.packet ∷ s.1, reported s.0 s.1 s.2, ap (λ l. Eps.SetUp c.args.packet ∷ l) s.3);
      flash = ap (λ v. v.1) c.self.view_is;
      may_work = ap (λ v. v.2) c.self.view_is;
    }
