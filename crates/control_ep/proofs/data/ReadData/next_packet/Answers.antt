use Rattle.std.proofs.Common.{arith}
use Rattle.control_ep.specs.representation.ReadData.{words_in}
use Rattle.control_ep.proofs.Left.{packet_is, empty_is, none_whole, none_past}
use Rattle.control_ep.proofs.data.ReadData.next_packet.Goals as goal
use Rattle.control_ep.proofs.data.ReadData.next_packet.Goals.{else-start-total-2-via-then-start-total-2+else-total-self, else-start-total-2-via-else-start-total-2}

pub eight_at-requires-clause-inside : goal.eight_at-requires-clause-inside
eight_at-requires-clause-inside c = rw c.words_in.ensures (omega arith)

pub returns-then-start-total-clause-packet : goal.returns-then-start-total-clause-packet
returns-then-start-total-clause-packet c =
    rw (← c.self.view_is)
    (packet_is (words_in c.self.inside.source c.self.inside.copy) c.eight_at.result c.self.inside.length c.self.inside.asked c.self.inside.sent c.min.result (omega arith) (omega arith)
    (rw c.words_in.ensures at c.eight_at.ensures))

pub returns-then-total-self-clause-packet : goal.returns-then-total-self-clause-packet
returns-then-total-self-clause-packet c =
    rw (← c.self.view_is)
    (empty_is (words_in c.self.inside.source c.self.inside.copy) c.args.packet.now c.self.inside.length c.self.inside.asked c.self.inside.sent (omega arith) (omega arith))

pub returns-else-start-total-2-clause-packet : goal.returns-else-start-total-2-clause-packet
returns-else-start-total-2-clause-packet c =
    rw (← c.self.view_is)
    (elim c.else-start-total-2.branch [
      | else-start-total-2-via-then-start-total-2+else-total-self w ↦
          none_whole (words_in c.self.inside.source c.self.inside.copy) c.self.inside.length c.self.inside.asked c.self.inside.sent (omega arith) (omega (arith, w.if-total-self.false))
      | else-start-total-2-via-else-start-total-2 w ↦
          none_past (words_in c.self.inside.source c.self.inside.copy) c.self.inside.length c.self.inside.asked c.self.inside.sent (omega (arith, w.if-start-total-2.false))
    ])
