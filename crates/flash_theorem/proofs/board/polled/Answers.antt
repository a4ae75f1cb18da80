use Rattle.std.proofs.Common.{ℕ, List, subst}
use Rattle.reports.specs.declared.Protocol.{Protocol}
use Rattle.keyboard.specs.Effects.{protocol_after}
use Rattle.host.specs.Reads.{text_by, Reads}
use Rattle.world.specs.History.{session, host_calls}
use Rattle.flash_theorem.proofs.Stepping.{poll_goes_on, nak_goes_on}
use Rattle.flash_theorem.proofs.board.polled.Goals as goal

pub returns-in_default-clause-takes : goal.returns-in_default-clause-takes
returns-in_default-clause-takes g c image start past s =
    let reported = c.in_default.ensures in
    rw c.just.ensures (nak_goes_on g.D.Defaults.defaults start past _ _ _ image s (reported.refines _ _ s.world.keyboard) (reported.answer _ _ s.world.keyboard))

pub returns-clause-takes : goal.returns-clause-takes
returns-clause-takes g c image start past s =
    let reported = c.in-Some.ensures in
    let protocol = c.protocol-protocol.ensures _ _ s.world.keyboard in
    let read = subst (λ (p : Protocol). Reads (text_by p (host_calls past)) c.as_slice.result.now c.read-reading.result) protocol (c.read-reading.ensures _ s.world.host) in
    rw c.is_no_memory-refused.ensures
    (poll_goes_on g.D.Defaults.defaults start past _ _ _ image c.in-Some.bytes c.read-reading.result s (reported.refines _ _ s.world.keyboard) (reported.answer _ _ s.world.keyboard)
    (subst (λ (l : List ℕ). Reads (text_by (protocol_after (session start past).past) (host_calls past)) l c.read-reading.result) c.as_slice.ensures.value read))
