use Rattle.std.proofs.Common.{rules, ◌≡◌, ◌≢◌, [], refl, inl, inr}
use Rattle.world.specs.declared.event.Answer.TheVariants.{Ack, Packet}
use Rattle.kbsim.proofs.OutputLemmas.{set_refused, set_taken}
use Rattle.kbsim.proofs.run.set.Goals as goal

pub returns-then-not-is_ack : goal.returns-then-not-is_ack
returns-then-not-is_ack g c =
    let refused : c.in_ok-reported.reported ≢ Ack = search rules in
    set_refused _ _ _ _ _ _ _ _ _ c.command.ensures c.in_ok-open.ensures c.in_ok-reported.ensures refused

pub returns-then-is_success : goal.returns-then-is_success
returns-then-is_success g c =
    let taken : c.in_ok-reported.reported ≡ Ack = search rules in
    let success : c.in_ok-status.status ≡ Packet (record { items = [] }) = search rules in
    set_taken _ _ _ _ _ _ _ _ _ _ _ _ _ c.command.ensures c.in_ok-open.ensures c.in_ok-reported.ensures taken c.in_ok-work_off.ensures c.in_ok-status.ensures (inl (success, refl))

pub returns : goal.returns
returns g c =
    let taken : c.in_ok-reported.reported ≡ Ack = search rules in
    let other : c.in_ok-status.status ≢ Packet (record { items = [] }) = search rules in
    set_taken _ _ _ _ _ _ _ _ _ _ _ _ _ c.command.ensures c.in_ok-open.ensures c.in_ok-reported.ensures taken c.in_ok-work_off.ensures c.in_ok-status.ensures (inr (other, refl))
