use Rattle.std.proofs.lemmas.Bool.{iff_false}
use Rattle.keymap_store.specs.declared.store.Job.TheVariants.{Turning}
use Rattle.keymap_store.proofs.Counting.{begun_needs, few_left}
use Rattle.keymap_store.proofs.Ordering.{append_begins, turn_begins}
use Rattle.keymap_store.proofs.Working.{begins_turn}
use Rattle.keymap_store.proofs.store.StoreOf.submit.Goals as goal

pub returns-in-Ok-clause-mirrors : goal.returns-in-Ok-clause-mirrors
returns-in-Ok-clause-mirrors g c image m =
    let n = rw (← c.self.view_is) at m in
    rw c.of-command.ensures (begins_turn g.D.Defaults.defaults image _ c.args.command c.begin_turn.new.self n (iff_false (c.room.ensures.room image n.log_is) c.if-room.false)
    (c.begin_turn.ensures.describes image n.log_is) c.in-Ok.ensures.begun.1)

pub returns-in-Ok-clause-needs : goal.returns-in-Ok-clause-needs
returns-in-Ok-clause-needs g c image m taken =
    let n = rw (← c.self.view_is) at m in
    begun_needs g.D.Defaults.defaults image _ c.begin_turn.new.self c.of-command.result n c.in-Ok.ensures.begun.1 (iff_false (c.room.ensures.room image n.log_is) c.if-room.false)

pub returns-in-Ok-clause-few : goal.returns-in-Ok-clause-few
returns-in-Ok-clause-few g c image = few_left g.D.Defaults.defaults image c.begin_turn.new.self (Turning c.of-command.result 0)

pub returns-in-Ok-clause-operations : goal.returns-in-Ok-clause-operations
returns-in-Ok-clause-operations g c image m taken =
    let n = rw (← c.self.view_is) at m in
    rw c.of-command.ensures (turn_begins g.D.Defaults.defaults image _ c.begin_turn.new.self c.args.command n c.in-Ok.ensures.begun.1 (iff_false (c.room.ensures.room image n.log_is) c.if-room.false))

pub returns-then-room-clause-operations : goal.returns-then-room-clause-operations
returns-then-room-clause-operations g c image m taken =
    let n = rw (← c.self.view_is) at m in
    rw c.of-command.ensures (append_begins g.D.Defaults.defaults image _ c.begin_append.new.self _ c.args.command n c.begin_append.ensures.pending ((c.room.ensures.room image n.log_is).0 c.if-room.true))
