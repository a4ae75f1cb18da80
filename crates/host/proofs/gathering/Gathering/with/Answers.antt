use Rattle.std.proofs.Common.{◌≡◌, ◌+◌, ◌<◌, ◌++◌, true, length, length-append, arith, sym, ◌∙◌}
use Rattle.host.specs.Kept.{is_end, is_kept}
use Rattle.host.proofs.CallLemmas.{fault-not-kept, ends-short, ends-full, goes-further, kept-text}
use Rattle.host.proofs.gathering.Gathering.with.Goals as goal
use Rattle.host.proofs.gathering.Gathering.with.Goals.{else-packet-ge-PACKET_LENGTH-via-then-packet-ge-PACKET_LENGTH+else-length-wanted, else-packet-ge-PACKET_LENGTH-via-else-packet-ge-PACKET_LENGTH}

pub returns-then-length-wanted : goal.returns-then-length-wanted
returns-then-length-wanted c fetch g =
    let all = length-append fetch.bytes c.args.packet.now in (
      goes-further fetch c.args.packet.now c.if-packet-ge-PACKET_LENGTH.true (omega (arith, c.if-length-wanted.true, g.wanted, g.length, all)),
      record {
        wanted = g.wanted;
        length = omega (arith, g.length, all);
        parser = c.feed.ensures.fed fetch.bytes g.parser;
      },
    )

pub returns-in-Ok-finish : goal.returns-in-Ok-finish
returns-in-Ok-finish c fetch g =
    let text = fetch.bytes ++ c.args.packet.now in
    let all = length-append fetch.bytes c.args.packet.now in
    let (clean, describes) = c.in-Ok-finish.ensures.answers text (c.feed.ensures.fed fetch.bytes g.parser) in
    let end : is_end fetch c.args.packet.now ≡ true = elim c.else-packet-ge-PACKET_LENGTH.branch [
      | else-packet-ge-PACKET_LENGTH-via-then-packet-ge-PACKET_LENGTH+else-length-wanted w ↦ ends-full fetch c.args.packet.now
          (omega (arith, w.if-length-wanted.false, g.wanted, g.length, all))
      | else-packet-ge-PACKET_LENGTH-via-else-packet-ge-PACKET_LENGTH w ↦ ends-short fetch c.args.packet.now w.if-packet-ge-PACKET_LENGTH.false
    ] in
    (end, kept-text text (omega (arith, c.if-length-ne-TEXT_LENGTH.false, g.length, all)) clean, describes)

pub returns-in-Err-2 : goal.returns-in-Err-2
returns-in-Err-2 c fetch g =
    let text = fetch.bytes ++ c.args.packet.now in
    let all = length-append fetch.bytes c.args.packet.now in
    let r = c.in-Err-finish.ensures.answers text (c.feed.ensures.fed fetch.bytes g.parser) in
    let end : is_end fetch c.args.packet.now ≡ true = elim c.else-packet-ge-PACKET_LENGTH.branch [
      | else-packet-ge-PACKET_LENGTH-via-then-packet-ge-PACKET_LENGTH+else-length-wanted w ↦ ends-full fetch c.args.packet.now
          (omega (arith, w.if-length-wanted.false, g.wanted, g.length, all))
      | else-packet-ge-PACKET_LENGTH-via-else-packet-ge-PACKET_LENGTH w ↦ ends-short fetch c.args.packet.now w.if-packet-ge-PACKET_LENGTH.false
    ] in
    (end, fault-not-kept text c.in-Err-finish.error r c.if-is_memory-2.ensures)
