use Rattle.std.proofs.Common.{◌≡◌, ◌∷◌, ◌∙◌, List, ℕ, sym, subst, ap}
use Rattle.control_ep.specs.declared.answer.EpAnswer.{EpAnswer as Answer}
use Rattle.usb_device.specs.Calls as Eps
use Rattle.keyboard.specs.Calls as Keyboards
use Rattle.usb_keyboard.specs.Plain.{plain}
use Rattle.usb_keyboard.specs.representation.Relation.{RunsSince}
use Rattle.usb_keyboard.proofs.device.UsbKeyboardOfEndpoints.in_packet.Goals as goal

pub returns : goal.returns
returns g c =
    let reported : (start : List ℕ) (past : List Keyboards.Call) → RunsSince g.D.Defaults.defaults start past c.args.self.now.0 (g.F.NorFlash.image c.args.self.now.1)
    → (answer : Answer) × RunsSince g.D.Defaults.defaults start (Keyboards.In answer ∷ past) (g.K.HoldsKeyboard.held c.in_packet-answer.new.self) (g.F.NorFlash.image c.self.inside.flash) × (c.plain.result ≡ plain answer) = λ start past r.
    let s = subst (λ v. RunsSince g.D.Defaults.defaults start past v.0 (g.F.NorFlash.image v.1)) (sym c.self.view_is) r in
    (c.in_packet-answer.result, record { refines = c.in_packet-answer.ensures.refines start past s.refines; image_is = s.image_is }, c.plain.ensures) in
    record {
      reported = reported;
      refines = λ calls s.
          let t = reported s.0 s.1 s.2 in
          (s.0, Keyboards.In t.0 ∷ s.1, t.1, ap (λ l. Eps.In (plain t.0) ∷ l) s.3 ∙ ap (λ x. Eps.In x ∷ calls) (sym t.2));
      flash = ap (λ v. v.1) c.self.view_is;
      may_work = ap (λ v. v.2) c.self.view_is;
    }
