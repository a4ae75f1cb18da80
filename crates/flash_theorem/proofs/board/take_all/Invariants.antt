use Rattle.std.proofs.Common.{List, vec_len, vec_capacity, ◌≡◌, ◌≤◌, ◌+◌}
use Rattle.flash_model.specs.Sim.{SimValue}
use Rattle.keyboard.specs.representation.Value.{RunsOn}
use Rattle.world.specs.Kinds.{Step}
use Rattle.flash_theorem.specs.representation.Relation.{Refines}
use Rattle.flash_theorem.proofs.Running.{Going}
use Rattle.flash_theorem.proofs.board.take_all.Given as goal

-- the keyboard runs on its flash; what was taken so far; how much was reported; and its room never shrinks
pub record SoFar (runs taken count room : Type 0) : Type 0 where
  pub runs_on : runs
  pub taken_so_far : taken
  pub counted : count
  pub never_shrinks : room

abbrev pub invariant-loop-happening : goal.invariant-loop-happening
invariant-loop-happening g l = SoFar
    (RunsOn g.D.Defaults.defaults (g.F.NorFlash.image l.flash) l.keyboard)
    ((start : SimValue) (past : List Step) → Refines g.D.Defaults.defaults start past l.fn.keyboard l.fn.host (g.F.NorFlash.image l.fn.flash) → Going g.D.Defaults.defaults g.F.NorFlash.image g.F.NorFlash.operates g.F.RestartableFlash.rests g.F.RestartableFlash.cuts start past l.happening-index l.keyboard l.host l.fn.flash l.flash l.happenings l.fn.reported.items l.reported.items)
    (vec_len l.reported ≡ vec_len l.fn.reported + l.happening-index)
    (vec_capacity l.fn.reported ≤ vec_capacity l.reported)
