use Rattle.std.proofs.Common.{◌≡◌, ◌≤◌, ◌∷◌, ◌++◌, ◌∙◌, ℕ, List, length, true, refl, ap, subst, arith}
use Rattle.usb_device.specs.declared.answer.EpAnswer.{EpAnswer}
use Rattle.usb_device.specs.declared.answer.EpAnswer.TheVariants.{Nak}
use Rattle.usb_device.specs.Calls.{In}
use Rattle.usb_device.specs.WholeReads.{in_calls, joined, is_last}
use Rattle.usb_device.proofs.Receiving.{last_short, last_all, not_last, is_no_packet, extended}
use Rattle.usb_device.proofs.whole_reads.receive.Goals as goal
use Rattle.usb_device.proofs.whole_reads.receive.Goals.{then-len-lt8-via-then-len-lt8, then-len-lt8-via-else-len-lt8+then-len-asked}

pub returns-then-len-lt8 : goal.returns-then-len-lt8
returns-then-len-lt8 g c = λ past s.
    let i = c.loop-packet.invariant.came past s in
    let packet : List ℕ = c.in-Packet.packet.items in
    let short : length c.deref.result.now ≤ 8 = c.deref.ensures.1 in
    let x = extended c.try_extend_from_slice-full.result c.loop-packet.bytes.items c.deref.result.now c.try_extend_from_slice-full.new.self.items c.loop-packet._packet c.try_extend_from_slice-full.ensures.variant.1
    c.try_extend_from_slice-full.ensures.ok c.loop-packet.invariant.fits c.loop-packet-test.true short in
    let e : c.try_extend_from_slice-full.new.self.items ≡ joined i.0 ++ packet = x.0 ∙ ap (λ l. c.loop-packet.bytes.items ++ l) c.deref.ensures.0 ∙ ap (λ l. l ++ packet) i.4 in
    let ends : is_last c.args.asked packet i.0 ≡ true = elim c.then-len-lt8.branch [
      | then-len-lt8-via-then-len-lt8 w ↦ last_short c.args.asked packet i.0 (omega (arith, w.if-len-lt8.true, c.len.ensures.value))
      | then-len-lt8-via-else-len-lt8+then-len-asked w ↦ last_all c.args.asked packet i.0 (omega (arith, w.if-len-asked.true, w.len-else-len-lt8.ensures.value, ap length e))
    ] in
    let P : EpAnswer → Type 0 = λ a. g.E.Endpoints.refines (In a ∷ in_calls i.0 ++ past) c.in_packet.new.self in (
      in_calls (packet ∷ i.0),
      subst P c.in-Packet.is (c.in_packet.ensures.refines (in_calls i.0 ++ past) i.1),
      (packet ∷ i.0, record { last = packet; before = i.0; packets_are = refl; ends = ends; go_on = i.2; bytes_are = e }, refl),
    )

pub returns-in-Nak : goal.returns-in-Nak
returns-in-Nak g c = λ past s.
    let i = c.loop-packet.invariant.came past s in
    let P : EpAnswer → Type 0 = λ a. g.E.Endpoints.refines (In a ∷ in_calls i.0 ++ past) c.in_packet.new.self in
    (In Nak ∷ in_calls i.0, subst P c.in-Nak.is (c.in_packet.ensures.refines (in_calls i.0 ++ past) i.1), (i.0, i.2, refl))

pub returns-in-Ack : goal.returns-in-Ack
returns-in-Ack g c = λ past s.
    let i = c.loop-packet.invariant.came past s in
    (In c.in_packet.result ∷ in_calls i.0, c.in_packet.ensures.refines (in_calls i.0 ++ past) i.1, (c.in_packet.result, i.0, is_no_packet c.in_packet.result c.in-Ack.is, i.2, refl))

pub loop-packet-preserved : goal.loop-packet-preserved
loop-packet-preserved g c =
    let packet : List ℕ = c.in-Packet.packet.items in
    let short : length c.deref.result.now ≤ 8 = c.deref.ensures.1 in
    let x = extended c.try_extend_from_slice-full.result c.loop-packet.bytes.items c.deref.result.now c.try_extend_from_slice-full.new.self.items c.loop-packet._packet c.try_extend_from_slice-full.ensures.variant.1
    c.try_extend_from_slice-full.ensures.ok c.loop-packet.invariant.fits c.loop-packet-test.true short in
    record {
      came = λ past s.
          let i = c.loop-packet.invariant.came past s in
          let e : c.try_extend_from_slice-full.new.self.items ≡ joined i.0 ++ packet = x.0 ∙ ap (λ l. c.loop-packet.bytes.items ++ l) c.deref.ensures.0 ∙ ap (λ l. l ++ packet) i.4 in
          let P : EpAnswer → Type 0 = λ a. g.E.Endpoints.refines (In a ∷ in_calls i.0 ++ past) c.in_packet.new.self in (
            packet ∷ i.0,
            subst P c.in-Packet.is (c.in_packet.ensures.refines (in_calls i.0 ++ past) i.1),
            (
              not_last c.args.asked packet i.0 (omega (arith, c.if-len-lt8.false, c.len.ensures.value))
                  (omega (arith, c.if-len-asked.false, c.len-else-len-lt8.ensures.value, ap length e)),
              i.2,
            ),
            omega (arith, i.3),
            e,
          );
      fits = x.1;
    }
