use Rattle.std.proofs.Common.{◌≡◌, ◌≤◌, ◌∷◌, ◌++◌, ◌∙◌, ℕ, List, length, true, refl, sym, ap, subst, arith}
use Rattle.control_ep.specs.declared.answer.EpAnswer.{EpAnswer as Answer}
use Rattle.control_ep.specs.declared.answer.EpAnswer.TheVariants as Answers
use Rattle.keyboard.specs.Calls.{In}
use Rattle.usb_device.specs.WholeReads.{joined, is_last, IsNoPacket}
use Rattle.usb_device.proofs.Receiving.{last_short, last_all, not_last, is_no_packet, extended}
use Rattle.usb_keyboard.specs.Whole.{in_calls}
use Rattle.usb_keyboard.specs.representation.Relation.{RunsSince}
use Rattle.usb_keyboard.proofs.Receiving.{packet_is, nak_is}
use Rattle.usb_keyboard.proofs.device.UsbKeyboardOf.receive.Goals as goal
use Rattle.usb_keyboard.proofs.device.UsbKeyboardOf.receive.Goals.{then-len-lt8-via-then-len-lt8, then-len-lt8-via-else-len-lt8+then-len-asked}

pub returns-then-len-lt8 : goal.returns-then-len-lt8
returns-then-len-lt8 g c = record {
  calls = λ start past r.
      let i = c.loop-packet.invariant.came start past r in
      let packet : List ℕ = c.in-Packet.packet.items in
      let short : length c.deref.result.now ≤ 8 = c.deref.ensures.1 in
      let x = extended c.try_extend_from_slice-full.result c.loop-packet.bytes.items c.deref.result.now c.try_extend_from_slice-full.new.self.items c.loop-packet._packet c.try_extend_from_slice-full.ensures.variant.1
      c.try_extend_from_slice-full.ensures.ok c.loop-packet.invariant.fits c.loop-packet-test.true short in
      let e : c.try_extend_from_slice-full.new.self.items ≡ joined i.0 ++ packet = x.0 ∙ ap (λ l. c.loop-packet.bytes.items ++ l) c.deref.ensures.0 ∙ ap (λ l. l ++ packet) i.4 in
      let ends : is_last c.args.asked packet i.0 ≡ true = elim c.then-len-lt8.branch [
        | then-len-lt8-via-then-len-lt8 w ↦ last_short c.args.asked packet i.0 (omega (arith, w.if-len-lt8.true, c.len.ensures.value))
        | then-len-lt8-via-else-len-lt8+then-len-asked w ↦ last_all c.args.asked packet i.0 (omega (arith, w.if-len-asked.true, w.len-else-len-lt8.ensures.value, ap length e))
      ] in
      let a = c.in_packet.ensures.reported start (in_calls i.0 ++ past) i.1 in
      let P : Answer → Type 0 = λ x. RunsSince g.D.Defaults.defaults start (In x ∷ in_calls i.0 ++ past) c.in_packet.new.self.0 (g.F.NorFlash.image c.in_packet.new.self.1) in (
        in_calls (packet ∷ i.0),
        subst P (packet_is a.0 c.in-Packet.packet (sym a.2 ∙ c.in-Packet.is)) a.1,
        (packet ∷ i.0, record { last = packet; before = i.0; packets_are = refl; ends = ends; go_on = i.2; bytes_are = e }, refl),
      );
  flash = c.in_packet.ensures.flash ∙ c.loop-packet.invariant.flash;
}

pub returns-in-Nak : goal.returns-in-Nak
returns-in-Nak g c = record {
  calls = λ start past r.
      let i = c.loop-packet.invariant.came start past r in
      let a = c.in_packet.ensures.reported start (in_calls i.0 ++ past) i.1 in
      let P : Answer → Type 0 = λ x. RunsSince g.D.Defaults.defaults start (In x ∷ in_calls i.0 ++ past) c.in_packet.new.self.0 (g.F.NorFlash.image c.in_packet.new.self.1) in
      (In Answers.Nak ∷ in_calls i.0, subst P (nak_is a.0 (sym a.2 ∙ c.in-Nak.is)) a.1, (i.0, i.2, refl));
  flash = c.in_packet.ensures.flash ∙ c.loop-packet.invariant.flash;
}

pub returns-in-Ack : goal.returns-in-Ack
returns-in-Ack g c = record {
  calls = λ start past r.
      let i = c.loop-packet.invariant.came start past r in
      let a = c.in_packet.ensures.reported start (in_calls i.0 ++ past) i.1 in
      (In a.0 ∷ in_calls i.0, a.1, (a.0, i.0, subst IsNoPacket a.2 (is_no_packet c.in_packet.result c.in-Ack.is), i.2, refl));
  flash = c.in_packet.ensures.flash ∙ c.loop-packet.invariant.flash;
}

pub loop-packet-preserved : goal.loop-packet-preserved
loop-packet-preserved g c =
    let packet : List ℕ = c.in-Packet.packet.items in
    let short : length c.deref.result.now ≤ 8 = c.deref.ensures.1 in
    let x = extended c.try_extend_from_slice-full.result c.loop-packet.bytes.items c.deref.result.now c.try_extend_from_slice-full.new.self.items c.loop-packet._packet c.try_extend_from_slice-full.ensures.variant.1
    c.try_extend_from_slice-full.ensures.ok c.loop-packet.invariant.fits c.loop-packet-test.true short in
    record {
      came = λ start past r.
          let i = c.loop-packet.invariant.came start past r in
          let e : c.try_extend_from_slice-full.new.self.items ≡ joined i.0 ++ packet = x.0 ∙ ap (λ l. c.loop-packet.bytes.items ++ l) c.deref.ensures.0 ∙ ap (λ l. l ++ packet) i.4 in
          let a = c.in_packet.ensures.reported start (in_calls i.0 ++ past) i.1 in
          let P : Answer → Type 0 = λ x. RunsSince g.D.Defaults.defaults start (In x ∷ in_calls i.0 ++ past) c.in_packet.new.self.0 (g.F.NorFlash.image c.in_packet.new.self.1) in (
            packet ∷ i.0,
            subst P (packet_is a.0 c.in-Packet.packet (sym a.2 ∙ c.in-Packet.is)) a.1,
            (
              not_last c.args.asked packet i.0 (omega (arith, c.if-len-lt8.false, c.len.ensures.value))
                  (omega (arith, c.if-len-asked.false, c.len-else-len-lt8.ensures.value, ap length e)),
              i.2,
            ),
            omega (arith, i.3),
            e,
          );
      fits = x.1;
      flash = c.in_packet.ensures.flash ∙ c.loop-packet.invariant.flash;
    }
