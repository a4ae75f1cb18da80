use Rattle.std.proofs.Common.{refl}
use Rattle.debounce.specs.declared.debouncer.Edges.{Edges}
use Rattle.layers.specs.Usages.{has_key, has_consumer}
use Rattle.key_reports.specs.Past.{wanted_after, poller_calls, scans_of}
use Rattle.key_reports.specs.representation.Relation.{IsFed}
use Rattle.key_reports.proofs.Standing.{refines-scanned, edges_of}
use Rattle.key_reports.proofs.key_reports.KeyReports.take.Goals as goal

pub returns : goal.returns
returns g c past scan fed =
    let s : IsFed scan c.args.flips.now past (record { debouncer = c.self.inside.matrix; held = c.self.inside.held; poller = c.self.inside.poller }) = rw c.self.view_is fed in
    let edges : Edges = record { released = c.released-released.result; pressed = c.pressed-pressed.result } in
    refines-scanned past scan c.args.flips.now c.args.keymap.now c.args.protocol (record { debouncer = c.self.inside.matrix; held = c.self.inside.held; poller = c.self.inside.poller })
    (record { debouncer = c.self.inside.matrix; held = c.take_edges.new.held; poller = c.tick_to.new.self })
    edges (has_key c.lent.result.now) (has_consumer c.lent.result.now)
    (edges_of scan c.args.flips.now (scans_of past) edges s.flips_are (c.released-released.ensures _ s.debouncer) (c.pressed-pressed.ensures _ s.debouncer))
    (record {
      debouncer = refl;
      takes = c.take_edges.ensures.takes;
      now = record { keys = c.lent.ensures.keys; consumer = c.lent.ensures.consumer };
      ticks = λ h m p. c.tick_to.ensures.refines (poller_calls past) (wanted_after past) (c.make_for.ensures.made past h m) (c.make_for.ensures.refines (poller_calls past) p);
      made = λ h m. c.tick_to.ensures.made (wanted_after past) (c.make_for.ensures.made past h m);
    }) s
