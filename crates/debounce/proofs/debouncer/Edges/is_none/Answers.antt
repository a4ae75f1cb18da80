use Rattle.debounce.proofs.NoEdges.{none_released, none_pressed}
use Rattle.debounce.proofs.debouncer.Edges.is_none.Goals as goal

pub returns-clause-released : goal.returns-clause-released
returns-clause-released c e key l =
    none_released c.args.self.now.released c.joined.result c.joined-2.result c.joined-3.result _ key
    (record { first = c.joined.ensures; second = c.joined-2.ensures; third = c.joined-3.ensures }) e l

pub returns-clause-pressed : goal.returns-clause-pressed
returns-clause-pressed c e key l =
    none_pressed c.args.self.now.pressed c.joined-4.result c.joined-5.result c.joined-6.result _ key
    (record { first = c.joined-4.ensures; second = c.joined-5.ensures; third = c.joined-6.ensures }) e l
