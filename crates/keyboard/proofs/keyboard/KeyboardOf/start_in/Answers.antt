use Rattle.keyboard.proofs.Starting.{refines_first}
use Rattle.keyboard.proofs.keyboard.KeyboardOf.start_in.Goals as goal

pub returns-clause-refines : goal.returns-clause-refines
returns-clause-refines g c =
    refines_first g.D.Defaults.defaults _ c.new.result c.into_keys.result c.mount.result _ _ c.new.ensures.refines c.into_keys.ensures c.mount.ensures.mirrors c.mount.ensures.rests c.known.ensures c.known-2.ensures

pub returns-clause-sessions : goal.returns-clause-sessions
returns-clause-sessions g c now earlier h m = record { refines = returns-clause-refines g c; starts = m; were = h }
