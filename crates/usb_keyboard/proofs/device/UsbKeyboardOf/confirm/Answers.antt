use Rattle.std.proofs.Common.{◌≡◌, ◌≤◌, ◌+◌, ℕ, ◌++◌, ◌∷◌, [], sym, ap, ◌∙◌, refl, subst, arith}
use Rattle.usb_device.specs.Whole.{status_of}
use Rattle.keyboard.specs.Calls.{In}
use Rattle.keyboard.proofs.Timing.{in_time}
use Rattle.usb_keyboard.specs.Whole.{put_off}
use Rattle.usb_keyboard.proofs.Faults.{Raises, no_steps, none_fails, in_either}
use Rattle.usb_keyboard.proofs.Using.{uses_none, uses_up_to, uses_more, healthy_for}
use Rattle.usb_keyboard.proofs.Writing.{waited_more, done_by}
use Rattle.usb_keyboard.proofs.device.UsbKeyboardOf.confirm.Goals as goal

pub loop-asked-init : goal.loop-asked-init
loop-asked-init g c = (uses_none g.F.NorFlash.operations g.F.NorFlash.is_faultless c.args.self.now.1, λ start past r. ([], r, refl, tt, (λ x. tt), no_steps _))

pub returns-in-Done : goal.returns-in-Done
returns-in-Done g c =
    let u = c.loop-asked.invariant.0 in
    let l = c.loop-asked-test.true in
    let few = u.few in
    let most : u.made ≤ 388 = omega (arith, few, l) in
    let asked : c.loop-asked._asked ≤ 388 = omega (arith, l) in
    record {
      calls = λ start past r.
          let i = c.loop-asked.invariant.1 start past r in
          let n = i.2 in
          let a = c.in_packet.ensures.reported start (put_off i.0 ++ past) i.1 in
          (In a.0 ∷ put_off i.0, a.1, done_by i.0 a.0 (ap status_of (sym a.2) ∙ sym c.status_of.ensures ∙ c.in-Done.is), in_either (λ e. none_fails i.0 _ _ i.5 (omega (arith, n, l)) (sym (ap g.F.NorFlash.faults c.in_packet.ensures.flash) ∙ e)) (λ h. i.4 (healthy_for g.F.NorFlash.operations g.F.NorFlash.is_faultless u.made 388 c.args.self.now.1 most h)));
      faultless = uses_up_to g.F.NorFlash.operations g.F.NorFlash.is_faultless c.loop-asked._asked 388 c.args.self.now.1 c.loop-asked.self.1 c.in_packet.new.self.1 asked c.in_packet.ensures.flash u;
    }

pub returns-in-Refuses : goal.returns-in-Refuses
returns-in-Refuses g c =
    let u = c.loop-asked.invariant.0 in
    let l = c.loop-asked-test.true in
    let few = u.few in
    let most : u.made ≤ 388 = omega (arith, few, l) in
    let asked : c.loop-asked._asked ≤ 388 = omega (arith, l) in
    record {
      calls = λ start past r.
          let i = c.loop-asked.invariant.1 start past r in
          let n = i.2 in
          let a = c.in_packet.ensures.reported start (put_off i.0 ++ past) i.1 in
          (In a.0 ∷ put_off i.0, a.1, (a.0, i.0, ap status_of (sym a.2) ∙ sym c.status_of.ensures ∙ c.in-Refuses.is, refl), in_either (λ e. none_fails i.0 _ _ i.5 (omega (arith, n, l)) (sym (ap g.F.NorFlash.faults c.in_packet.ensures.flash) ∙ e)) (λ h. i.4 (healthy_for g.F.NorFlash.operations g.F.NorFlash.is_faultless u.made 388 c.args.self.now.1 most h)));
      faultless = uses_up_to g.F.NorFlash.operations g.F.NorFlash.is_faultless c.loop-asked._asked 388 c.args.self.now.1 c.loop-asked.self.1 c.in_packet.new.self.1 asked c.in_packet.ensures.flash u;
    }

pub returns-clause-calls : goal.returns-clause-calls
returns-clause-calls g c = λ start past r.
    let u = c.loop-asked.invariant.0 in
    let few = u.few in
    let i = c.loop-asked.invariant.1 start past r in
    let n = i.2 in
    let all : c.loop-asked._asked ≡ 388 = omega (arith, c.loop-asked.auto._asked-end, c.loop-asked-test.false) in
    let most : u.made ≤ 388 = omega (arith, few, all) in (
      put_off i.0,
      i.1,
      (i.0, n ∙ all, i.3, refl),
      in_either (λ e. none_fails i.0 _ _ i.5 (omega (arith, n, all)) e) (λ h. i.4 (healthy_for g.F.NorFlash.operations g.F.NorFlash.is_faultless u.made 388 c.args.self.now.1 most h)),
    )

pub returns-clause-faultless : goal.returns-clause-faultless
returns-clause-faultless g c =
    let all : c.loop-asked._asked ≡ 388 = omega (arith, c.loop-asked.auto._asked-end, c.loop-asked-test.false) in
    let asked : c.loop-asked._asked ≤ 388 = omega (arith, all) in
    uses_up_to g.F.NorFlash.operations g.F.NorFlash.is_faultless c.loop-asked._asked 388 c.args.self.now.1 c.loop-asked.self.1 c.loop-asked.self.1 asked refl c.loop-asked.invariant.0

pub loop-asked-preserved : goal.loop-asked-preserved
loop-asked-preserved g c =
    let operations = g.F.NorFlash.operations in
    let healthy = g.F.NorFlash.is_faultless in
    let first = c.args.self.now.1 in
    let u = uses_up_to operations healthy c.loop-asked._asked c.loop-asked._asked first c.loop-asked.self.1 c.in_packet.new.self.1 (omega arith) c.in_packet.ensures.flash c.loop-asked.invariant.0 in
    let m = uses_more operations healthy c.loop-asked._asked first c.in_packet.new.self.1 c.step-work.new.self.1 c.step-work.result u _ _ c.step-work.ensures.untouched c.step-work.ensures.counts c.step-work.ensures.faultless in (
      m.uses,
      λ start past r.
          let i = c.loop-asked.invariant.1 start past r in
          let a = c.in_packet.ensures.reported start (put_off i.0 ++ past) i.1 in
          waited_more g.D.Defaults.defaults start past i.0 a.0 c.step-work.result _ _ c.loop-asked._asked ((n : ℕ) × healthy first (n + m.uses.made)) (ap status_of (sym a.2) ∙ sym c.status_of.ensures ∙ c.in-Waits.is)
          (c.step-work.ensures.reported start (In a.0 ∷ put_off i.0 ++ past) a.1) (in_time g.D.Defaults.defaults start (put_off i.0 ++ past) i.1.refines.answered) i.2 (λ h. i.4 (m.enough h))
          m.whole _ _ _ _ _
          (subst (λ f. Raises i.0 (g.F.NorFlash.faults c.args.self.now.1) (g.F.NorFlash.faults f)) (sym c.in_packet.ensures.flash) i.5) c.step-work.ensures.counts,
    )
