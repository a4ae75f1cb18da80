use Rattle.std.proofs.Common.{◌≡◌, ◌⊎◌, ◌∙◌, ◌+◌, ◌∷◌, ◌++◌, ℕ, sym, subst, arith}
use Rattle.keyboard.specs.Calls.{SetUp}
use Rattle.usb_device.specs.declared.whole_transfers.Status.{Status}
use Rattle.usb_keyboard.specs.representation.Whole.{Gives}
use Rattle.usb_keyboard.specs.Uses.{UsesAtMost}
use Rattle.usb_keyboard.proofs.Using.{uses_none, uses_up_to}
use Rattle.usb_keyboard.proofs.Checking.{taken_checked, put_off_checked, refused_checked}
use Rattle.usb_keyboard.proofs.Writing.{whole, put_off_data, refused_data}
use Rattle.usb_keyboard.proofs.device.UsbKeyboardOf.write.Goals as goal

pub returns-in-Done : goal.returns-in-Done
returns-in-Done g c =
    let healthy = g.F.NorFlash.is_faultless in
    let faults = g.F.NorFlash.faults in
    record {
      calls = λ start past r.
          let t = c.give.ensures.calls start (SetUp c.args.setup ∷ past) (c.setup.ensures.reported start past r) in
          let f = c.confirm.ensures.calls start (t.0 ++ SetUp c.args.setup ∷ past) t.1 in
          let P : Status → Type 0 = λ x. Gives x c.args.bytes.now t.0 in
          whole g.D.Defaults.defaults start past c.args.setup c.args.bytes.now t.0 f.0 _ _ c.confirm.result (subst P c.in-Done.is t.2) f.1 f.2;
      checked = λ start past r.
          let t = c.give.ensures.calls start (SetUp c.args.setup ∷ past) (c.setup.ensures.reported start past r) in
          let f = c.confirm.ensures.calls start (t.0 ++ SetUp c.args.setup ∷ past) t.1 in
          let P : Status → Type 0 = λ x. Gives x c.args.bytes.now t.0 in
          taken_checked g.D.Defaults.defaults start past c.args.setup c.args.bytes.now t.0 f.0 c.confirm.result ((faults c.confirm.new.self.1 ≡ faults c.args.self.now.1) ⊎ ((n : ℕ) × healthy c.args.self.now.1 (n + 388))) (subst P c.in-Done.is t.2) f.1.refines.answered f.2
          (λ x. f.3 (subst (λ x. (faults c.confirm.new.self.1 ≡ faults x) ⊎ ((n : ℕ) × healthy x (n + 388))) (sym (c.give.ensures.flash ∙ c.setup.ensures.flash)) x));
      faultless = subst (λ x. UsesAtMost g.F.NorFlash.operations healthy 388 x c.confirm.new.self.1) (c.give.ensures.flash ∙ c.setup.ensures.flash) c.confirm.ensures.faultless;
    }

pub returns-in-Waits : goal.returns-in-Waits
returns-in-Waits g c =
    let healthy = g.F.NorFlash.is_faultless in
    let faults = g.F.NorFlash.faults in
    record {
      calls = λ start past r.
          let t = c.give.ensures.calls start (SetUp c.args.setup ∷ past) (c.setup.ensures.reported start past r) in
          let P : Status → Type 0 = λ x. Gives x c.args.bytes.now t.0 in
          put_off_data g.D.Defaults.defaults start past c.args.setup c.args.bytes.now t.0 _ _ (subst P c.in-Waits.is t.2) t.1;
      checked = λ start past r.
          let t = c.give.ensures.calls start (SetUp c.args.setup ∷ past) (c.setup.ensures.reported start past r) in
          let P : Status → Type 0 = λ x. Gives x c.args.bytes.now t.0 in
          put_off_checked g.D.Defaults.defaults start past c.args.setup c.args.bytes.now t.0 ((faults c.give.new.self.1 ≡ faults c.args.self.now.1) ⊎ ((n : ℕ) × healthy c.args.self.now.1 (n + 388))) (subst P c.in-Waits.is t.2) t.1.refines.answered;
      faultless = uses_up_to g.F.NorFlash.operations healthy 0 388 c.args.self.now.1 c.args.self.now.1 c.give.new.self.1 (omega arith) (c.give.ensures.flash ∙ c.setup.ensures.flash) (uses_none g.F.NorFlash.operations healthy c.args.self.now.1);
    }

pub returns-in-Refuses : goal.returns-in-Refuses
returns-in-Refuses g c =
    let healthy = g.F.NorFlash.is_faultless in
    let faults = g.F.NorFlash.faults in
    record {
      calls = λ start past r.
          let t = c.give.ensures.calls start (SetUp c.args.setup ∷ past) (c.setup.ensures.reported start past r) in
          let P : Status → Type 0 = λ x. Gives x c.args.bytes.now t.0 in
          refused_data g.D.Defaults.defaults start past c.args.setup c.args.bytes.now t.0 _ _ (subst P c.in-Refuses.is t.2) t.1;
      checked = λ start past r.
          let t = c.give.ensures.calls start (SetUp c.args.setup ∷ past) (c.setup.ensures.reported start past r) in
          let P : Status → Type 0 = λ x. Gives x c.args.bytes.now t.0 in
          refused_checked g.D.Defaults.defaults start past c.args.setup c.args.bytes.now t.0 ((faults c.give.new.self.1 ≡ faults c.args.self.now.1) ⊎ ((n : ℕ) × healthy c.args.self.now.1 (n + 388))) (subst P c.in-Refuses.is t.2) t.1.refines.answered;
      faultless = uses_up_to g.F.NorFlash.operations healthy 0 388 c.args.self.now.1 c.args.self.now.1 c.give.new.self.1 (omega arith) (c.give.ensures.flash ∙ c.setup.ensures.flash) (uses_none g.F.NorFlash.operations healthy c.args.self.now.1);
    }
