use Rattle.keyboard.proofs.Starting.{refines_first}
use Rattle.keyboard.proofs.keyboard.KeyboardOf.restart.Goals as goal

pub returns-clause-refines : goal.returns-clause-refines
returns-clause-refines g c =
    refines_first g.D.Defaults.defaults _ c.new-self-inside.result c.restart.new.self c.remount.new.self _ _ c.new-self-inside.ensures.refines c.restart.ensures c.remount.ensures.mirrors c.remount.ensures.rests c.known-self-inside.ensures c.known-self-inside-2.ensures

pub returns-clause-sessions : goal.returns-clause-sessions
returns-clause-sessions g c now earlier h m = record { refines = returns-clause-refines g c; starts = m; were = h }
