use Rattle.std.proofs.Common.{◌≡◌, ◌∷◌, ◌∙◌, ◌||◌, List, ℕ, sym, subst, ap}
use Rattle.control_ep.specs.declared.answer.EpAnswer.{EpAnswer as Answer}
use Rattle.usb_device.specs.Calls as Eps
use Rattle.keyboard.specs.Calls as Keyboards
use Rattle.usb_keyboard.specs.Plain.{plain, is_taken}
use Rattle.usb_keyboard.specs.representation.Relation.{RunsSince}
use Rattle.usb_keyboard.proofs.device.UsbKeyboardOfEndpoints.out.Goals as goal
use Rattle.usb_keyboard.proofs.device.UsbKeyboardOfEndpoints.out.Goals.{then-self, else-self}

pub returns : goal.returns
returns g c =
    let reported : (start : List ℕ) (past : List Keyboards.Call) → RunsSince g.D.Defaults.defaults start past c.args.self.now.0 (g.F.NorFlash.image c.args.self.now.1)
    → (answer : Answer) × RunsSince g.D.Defaults.defaults start (Keyboards.Out c.args.packet.now answer ∷ past) (g.K.HoldsKeyboard.held c.out-answer.new.self) (g.F.NorFlash.image c.self.inside.flash) × (c.plain.result ≡ plain answer) = λ start past r.
    let s = subst (λ v. RunsSince g.D.Defaults.defaults start past v.0 (g.F.NorFlash.image v.1)) (sym c.self.view_is) r in
    (c.out-answer.result, record { refines = c.out-answer.ensures.refines start past s.refines; image_is = s.image_is }, c.plain.ensures) in
    record {
      reported = reported;
      refines = λ calls s.
          let t = reported s.0 s.1 s.2 in
          (s.0, Keyboards.Out c.args.packet.now t.0 ∷ s.1, t.1, ap (λ l. Eps.Out c.args.packet.now (plain t.0) ∷ l) s.3 ∙ ap (λ x. Eps.Out c.args.packet.now x ∷ calls) (sym t.2));
      flash = ap (λ v. v.1) c.self.view_is;
      may_work = (let taken = is_taken c.plain.result in
          let before = sym (ap (λ v. v.2) c.self.view_is) in
          elim c.if-self.branch [
            | then-self w ↦ w.self-is ∙ (w.if-self.true ∙ sym (ap (λ x. x || taken) (before ∙ w.if-self.true)))
            | else-self w ↦ w.self-is ∙ (w.is_taken-self-inside.ensures ∙ ap is_taken (sym c.plain.ensures)) ∙ sym (ap (λ x. x || taken) (before ∙ w.if-self.false))
          ]);
    }
