use Rattle.std.proofs.Common.{List, vec_len, vec_capacity, ◌≡◌, ◌≤◌, ◌+◌}
use Rattle.flash_model.specs.Sim.{SimValue}
use Rattle.world.specs.Kinds.{Step}
use Rattle.world.specs.representation.Relation.{Refines}
use Rattle.world.proofs.Running.{Going}
use Rattle.world.proofs.world.WorldOf.take_all.Given as goal

-- what was reported so far, how many answers there are, and that their room never shrinks
pub record SoFar (reported count room : Type 0) : Type 0 where
  pub reported_so_far : reported
  pub counted : count
  pub never_shrinks : room

abbrev pub invariant-loop-event : goal.invariant-loop-event
invariant-loop-event g l = SoFar
    ((start : SimValue) (past : List Step) → Refines g.D.Defaults.defaults start past l.fn.self → Going g.D.Defaults.defaults start past l.event-index l.self l.events l.fn.answers.items l.answers.items)
    (vec_len l.answers ≡ vec_len l.fn.answers + l.event-index)
    (vec_capacity l.fn.answers ≤ vec_capacity l.answers)
