use Rattle.std.proofs.Common.{◌≡◌, ◌≤◌, ◌∷◌, ℕ, length, List, Option, Some, sym, subst, ap, refl, ◌∙◌}
use Rattle.std.specs.Option.{option_map}
use Rattle.usb_device.specs.Calls as Eps
use Rattle.keyboard.specs.Calls.{Call, Polled}
use Rattle.keyboard.specs.Effects.{protocol_after}
use Rattle.keyboard.specs.representation.Relation.{Refines}
use Rattle.usb_keyboard.specs.representation.Relation.{RunsSince}
use Rattle.usb_keyboard.proofs.Sizes.{short}
use Rattle.usb_keyboard.proofs.device.UsbKeyboardOfEndpoints.poll.Goals as goal
use Rattle.usb_keyboard.proofs.device.UsbKeyboardOfEndpoints.poll.Goals.{in-Some, in-None}

pub returns : goal.returns
returns g c =
    let reported : (start : List ℕ) (past : List Call) → RunsSince g.D.Defaults.defaults start past c.args.self.now.0 (g.F.NorFlash.image c.args.self.now.1)
    → RunsSince g.D.Defaults.defaults start (Polled (option_map (λ r. r.items) c.match-poll.result) ∷ past) (g.K.HoldsKeyboard.held c.poll.new.self) (g.F.NorFlash.image c.self.inside.flash) = λ start past r.
    let s = subst (λ v. RunsSince g.D.Defaults.defaults start past v.0 (g.F.NorFlash.image v.1)) (sym c.self.view_is) r in
    let answered = c.poll.ensures.answer start past s.refines in
    let P : Option (List ℕ) → Type 0 = λ o. Refines g.D.Defaults.defaults start (Polled o ∷ past) (g.K.HoldsKeyboard.held c.poll.new.self) in
    let same : option_map (λ r. r.items) c.poll.result ≡ option_map (λ r. r.items) c.match-poll.result = elim c.match-poll.branch [
      | in-Some w ↦ (
          let is = ap (λ o. option_map (λ r. r.items) o) w.in-Some.is in
          let short_ : length w.in-Some.report.items ≤ 23 = short g.D.Defaults.defaults start past (protocol_after past) w.in-Some.report.items (sym is ∙ answered) in
          let copied = w.short.ensures (rw w.deref.ensures.0 short_) in
          is ∙ ap (λ xs. Some xs) (sym (copied ∙ w.deref.ensures.0)) ∙ sym (ap (λ o. option_map (λ r. r.items) o) w.result-is)
          )
      | in-None w ↦ rw (w.in-None.is, w.result-is) refl
    ] in
    record { refines = subst P same (c.poll.ensures.refines start past s.refines); image_is = s.image_is } in
    record { reported = reported; refines = λ calls s. (s.0, Polled (option_map (λ r. r.items) c.match-poll.result) ∷ s.1, reported s.0 s.1 s.2, ap (λ l. Eps.Polled (option_map (λ r. r.items) c.match-poll.result) ∷ l) s.3); may_work = ap (λ v. v.2) c.self.view_is }
