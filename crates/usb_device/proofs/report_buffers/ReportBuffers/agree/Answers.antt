use Rattle.std.proofs.Common.{false, refl, sym, subst, inl, inr}
use Rattle.usb_device.specs.contracts.report_buffers.ReportBuffers.{the_view}
use Rattle.usb_device.specs.representation.Link1.{ReportState, Link1}
use Rattle.usb_device.proofs.Reporting.{agreed_link}
use Rattle.usb_device.proofs.Layering.{agreed_in_step, agreed_known, agreed_bides}
use Rattle.usb_device.proofs.report_buffers.ReportBuffers.agree.Goals as goal

pub returns-then-not-self-clause-linked : goal.returns-then-not-self-clause-linked
returns-then-not-self-clause-linked g c = λ calls h.
    let i = c.host_began.ensures in
    let s = the_view c.self.inside in
    let P : ReportState → Type 0 = λ x. Link1 x (g.B.Buffers.bus c.args.buffers.now) calls in
    agreed_link i.0 s false _ i.1 _ calls (inl (let x = c.if-not-self.true in search, refl)) i.2 i.3 (subst P (sym c.self.view_is) h)

pub returns-else-not-self-clause-linked : goal.returns-else-not-self-clause-linked
returns-else-not-self-clause-linked g c = λ calls h.
    let i = c.host_began.ensures in
    let s = c.args.self.now in
    agreed_link i.0 s s.unsure _ i.1 _ calls (inr (let x = c.if-not-self.false in search, refl)) i.2 i.3 h

pub returns-then-not-self-clause-reported : goal.returns-then-not-self-clause-reported
returns-then-not-self-clause-reported g c = λ states h. let i = c.host_began.ensures in agreed_in_step i.0 states _ i.1 _ i.2 i.3 h

pub returns-else-not-self-clause-reported : goal.returns-else-not-self-clause-reported
returns-else-not-self-clause-reported g c = λ states h. let i = c.host_began.ensures in agreed_in_step i.0 states _ i.1 _ i.2 i.3 h

pub returns-then-not-self-clause-known : goal.returns-then-not-self-clause-known
returns-then-not-self-clause-known g c = let i = c.host_began.ensures in agreed_known i.0 _ i.1 _ i.2 i.3

pub returns-else-not-self-clause-known : goal.returns-else-not-self-clause-known
returns-else-not-self-clause-known g c = let i = c.host_began.ensures in agreed_known i.0 _ i.1 _ i.2 i.3

pub returns-then-not-self-clause-bides : goal.returns-then-not-self-clause-bides
returns-then-not-self-clause-bides g c = let i = c.host_began.ensures in agreed_bides i.0 _ i.1 _ i.2 i.3

pub returns-else-not-self-clause-bides : goal.returns-else-not-self-clause-bides
returns-else-not-self-clause-bides g c = let i = c.host_began.ensures in agreed_bides i.0 _ i.1 _ i.2 i.3
