use Rattle.std.proofs.Common.{◌≡◌, ◌==◌, ◌∷◌, ◌++◌, [], false, List, ℕ, refl, sym, ◌∙◌, subst}
use Rattle.std.specs.Prelude.{MatchResult}
use Rattle.control_ep.specs.Requests.{request_of, transfer_of}
use Rattle.keyboard.specs.Calls.{Call, SetUp, Out}
use Rattle.keyboard.specs.Endpoint.{view_after}
use Rattle.usb_keyboard.specs.Whole.{not_asked}
use Rattle.usb_keyboard.specs.representation.Relation.{RunsSince}
use Rattle.usb_keyboard.specs.representation.Whole.{Receives, NotReceived}
use Rattle.usb_keyboard.proofs.Receiving.{nothing_asked, not_zero, behind, closed_calls, closed_answer, not_got}
use Rattle.usb_keyboard.proofs.device.UsbKeyboardOf.read.Goals as goal

pub returns-then-asked-eq0 : goal.returns-then-asked-eq0
returns-then-asked-eq0 g c = record {
  calls = λ start past r. ([], r, not_asked (sym c.length_of-asked.ensures ∙ c.if-asked-eq0.true) refl);
  answer = λ start past r.
      nothing_asked (transfer_of (request_of c.args.setup) (view_after g.D.Defaults.defaults start past)) (request_of c.args.setup).length (sym c.length_of-asked.ensures ∙ c.if-asked-eq0.true);
  flash = refl;
}

pub returns-in-Ok : goal.returns-in-Ok
returns-in-Ok g c =
    let setup = c.args.setup in
    let z : ((request_of setup).length == 0) ≡ false = subst (λ (n : ℕ). (n == 0) ≡ false) c.length_of-asked.ensures (not_zero c.length_of-asked.result c.if-asked-eq0.false) in
    record {
      calls = λ start past r.
          let t = c.receive.ensures.calls start (SetUp setup ∷ past) (c.setup.ensures.reported start past r) in
          let m = subst (λ x. MatchResult x (λ bytes. Receives c.length_of-asked.result bytes.items t.0) (λ e. NotReceived e c.length_of-asked.result t.0)) c.in-Ok.is t.2 in
          let got = subst (λ (n : ℕ). Receives n c.in-Ok.bytes.items t.0) c.length_of-asked.ensures m in
          let d = c.close.ensures.calls start (t.0 ++ SetUp setup ∷ past) t.1 in (
            Out [] d.0 ∷ t.0 ++ (SetUp setup ∷ []),
            behind (λ (l : List Call). RunsSince g.D.Defaults.defaults start (Out [] d.0 ∷ l) c.close.new.self.0 (g.F.NorFlash.image c.close.new.self.1)) t.0 past setup d.1,
            closed_calls g.D.Defaults.defaults (λ b. b.items) start past setup c.in-Ok.bytes c.close.result d.0 t.0 z got d.1.refines.answered d.2,
          );
      answer = λ start past r.
          let t = c.receive.ensures.calls start (SetUp setup ∷ past) (c.setup.ensures.reported start past r) in
          let m = subst (λ x. MatchResult x (λ bytes. Receives c.length_of-asked.result bytes.items t.0) (λ e. NotReceived e c.length_of-asked.result t.0)) c.in-Ok.is t.2 in
          let got = subst (λ (n : ℕ). Receives n c.in-Ok.bytes.items t.0) c.length_of-asked.ensures m in
          let d = c.close.ensures.calls start (t.0 ++ SetUp setup ∷ past) t.1 in
          closed_answer g.D.Defaults.defaults (λ b. b.items) start past setup c.in-Ok.bytes c.close.result d.0 t.0 z got d.1.refines.answered d.2;
      flash = c.close.ensures.flash ∙ c.receive.ensures.flash ∙ c.setup.ensures.flash;
    }

pub returns-in-Err : goal.returns-in-Err
returns-in-Err g c =
    let setup = c.args.setup in
    let z : ((request_of setup).length == 0) ≡ false = subst (λ (n : ℕ). (n == 0) ≡ false) c.length_of-asked.ensures (not_zero c.length_of-asked.result c.if-asked-eq0.false) in
    record {
      calls = λ start past r.
          let t = c.receive.ensures.calls start (SetUp setup ∷ past) (c.setup.ensures.reported start past r) in
          let m = subst (λ x. MatchResult x (λ bytes. Receives c.length_of-asked.result bytes.items t.0) (λ e. NotReceived e c.length_of-asked.result t.0)) c.in-Err.is t.2 in
          let none = subst (λ (n : ℕ). NotReceived c.in-Err.error n t.0) c.length_of-asked.ensures m in (
            t.0 ++ (SetUp setup ∷ []),
            behind (λ (l : List Call). RunsSince g.D.Defaults.defaults start l c.receive.new.self.0 (g.F.NorFlash.image c.receive.new.self.1)) t.0 past setup t.1,
            (not_got g.D.Defaults.defaults start past setup c.in-Err.error t.0 z none t.1.refines.answered).1,
          );
      answer = λ start past r.
          let t = c.receive.ensures.calls start (SetUp setup ∷ past) (c.setup.ensures.reported start past r) in
          let m = subst (λ x. MatchResult x (λ bytes. Receives c.length_of-asked.result bytes.items t.0) (λ e. NotReceived e c.length_of-asked.result t.0)) c.in-Err.is t.2 in
          let none = subst (λ (n : ℕ). NotReceived c.in-Err.error n t.0) c.length_of-asked.ensures m in
          (not_got g.D.Defaults.defaults start past setup c.in-Err.error t.0 z none t.1.refines.answered).0;
      flash = c.receive.ensures.flash ∙ c.setup.ensures.flash;
    }
