use Rattle.debounce.specs.declared.debouncer.Edges.{Edges}
use Rattle.key_reports.specs.representation.Edges.{with_edges}
use Rattle.key_reports.proofs.Edges.{takes_edges, takes_named}
use Rattle.key_reports.proofs.keys.take_edges.Goals as goal

pub returns-clause-takes : goal.returns-clause-takes
returns-clause-takes g c =
    let edges : Edges = record { released = c.args.released.now; pressed = c.args.pressed.now } in
    rw c.name_usages.ensures
    (takes_named (with_edges c.args.keymap.now edges) c.args.held.now c.press_all.new.held
    (takes_edges c.args.keymap.now edges c.args.held.now c.release_all.new.held c.press_all.new.held c.release_all.ensures c.press_all.ensures))
