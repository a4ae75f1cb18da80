use Rattle.std.proofs.Common.{◌∷◌, ◌++◌, [], List, ℕ, refl, sym, ◌∙◌, subst}
use Rattle.std.specs.Prelude.{MatchResult}
use Rattle.usb_device.specs.Calls.{EpCall, SetUp, Out}
use Rattle.usb_device.specs.WholeReads.{no_data}
use Rattle.usb_device.specs.representation.WholeReads.{Receives, NotReceived}
use Rattle.usb_device.proofs.Receiving.{closed, not_read, behind}
use Rattle.usb_device.proofs.whole_reads.read.Goals as goal

pub returns-then-asked-eq0 : goal.returns-then-asked-eq0
returns-then-asked-eq0 g c = λ past s. ([], s, no_data (sym c.length_of-asked.ensures ∙ c.if-asked-eq0.true) refl)

pub returns-in-Ok : goal.returns-in-Ok
returns-in-Ok g c = λ past s.
    let setup = c.args.setup in
    let r = c.receive.ensures (SetUp setup ∷ past) (c.setup.ensures.refines past s) in
    let m = subst (λ x. MatchResult x (λ bytes. Receives c.length_of-asked.result bytes.items r.0) (λ e. NotReceived e c.length_of-asked.result r.0)) c.in-Ok.is r.2 in
    let got = subst (λ (n : ℕ). Receives n c.in-Ok.bytes.items r.0) c.length_of-asked.ensures m in
    let d = c.close.ensures (r.0 ++ SetUp setup ∷ past) r.1 in (
      Out [] d.0 ∷ r.0 ++ (SetUp setup ∷ []),
      behind (λ (l : List EpCall). g.E.Endpoints.refines (Out [] d.0 ∷ l) c.close.new.device) r.0 past setup d.1,
      closed (λ b. b.items) setup c.in-Ok.bytes c.close.result d.0 r.0 got d.2,
    )

pub returns-in-Err : goal.returns-in-Err
returns-in-Err g c = λ past s.
    let setup = c.args.setup in
    let r = c.receive.ensures (SetUp setup ∷ past) (c.setup.ensures.refines past s) in
    let m = subst (λ x. MatchResult x (λ bytes. Receives c.length_of-asked.result bytes.items r.0) (λ e. NotReceived e c.length_of-asked.result r.0)) c.in-Err.is r.2 in
    let got = subst (λ (n : ℕ). NotReceived c.in-Err.error n r.0) c.length_of-asked.ensures m in (
      r.0 ++ (SetUp setup ∷ []),
      behind (λ (l : List EpCall). g.E.Endpoints.refines l c.receive.new.device) r.0 past setup r.1,
      not_read c.in-Err.error setup r.0 got,
    )
