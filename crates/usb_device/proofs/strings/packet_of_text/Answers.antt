use Rattle.std.proofs.Common.{arith, refl, sym, ◌∙◌, ap, ◌+◌, ◌*◌, ◌∷◌, length, take, flat_map, Some}
use Rattle.usb_device.specs.Strings.{unit_bytes}
use Rattle.usb_device.proofs.Places.{bytes_of, length-bytes, packet_some, packet_empty, packet_none}
use Rattle.usb_device.proofs.strings.packet_of_text.Goals as goal

pub returns-then-start-sent-clause-packet : goal.returns-then-start-sent-clause-packet
returns-then-start-sent-clause-packet c =
    let units = take c.held_count.result c.args.text.now in
    let bytes = (2 + 2 * length units) ∷ 3 ∷ flat_map unit_bytes units in
    let n = length-bytes (2 + 2 * length units) units in
    let p = packet_some bytes c.args.asked c.args.index
    (omega (arith, n, c.from.ensures, c.from-asked.ensures, c.min-sent.ensures, c.from-start.ensures, c.if-start-sent.true)) in
    rw (← bytes_of c.held_count.result c.args.text.now c.held_count.ensures.there c.held_count.ensures.held)
    (ap Some (rw (c.bytes_between.ensures, c.min.ensures, c.min-sent.ensures, c.from.ensures, c.from-asked.ensures, c.from-start.ensures, n) refl)
    ∙ sym p)

pub returns-then-sent-asked-clause-packet : goal.returns-then-sent-asked-clause-packet
returns-then-sent-asked-clause-packet c =
    let units = take c.held_count.result c.args.text.now in
    let n = length-bytes (2 + 2 * length units) units in
    let p = packet_empty ((2 + 2 * length units) ∷ 3 ∷ flat_map unit_bytes units) c.args.asked c.args.index in
    rw (← bytes_of c.held_count.result c.args.text.now c.held_count.ensures.there c.held_count.ensures.held) (grind (arith, n, p))

pub returns-else-start-sent-2-clause-packet : goal.returns-else-start-sent-2-clause-packet
returns-else-start-sent-2-clause-packet c =
    let units = take c.held_count.result c.args.text.now in
    let n = length-bytes (2 + 2 * length units) units in
    let p = packet_none ((2 + 2 * length units) ∷ 3 ∷ flat_map unit_bytes units) c.args.asked c.args.index in
    rw (← bytes_of c.held_count.result c.args.text.now c.held_count.ensures.there c.held_count.ensures.held) (grind (arith, n, p))
