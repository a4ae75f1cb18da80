-- Representation: a control endpoint refines the calls made on it, newest first.
use Rattle.std.specs.Prelude.{◌≡◌, List}
use Rattle.control_ep.specs.Transfers.{Stage}
use Rattle.control_ep.specs.Calls.{EpCall}
use Rattle.control_ep.specs.Stage.{stage}
use Rattle.control_ep.specs.Relation.{AllAnswered}

-- the endpoint is in the stage of these calls, each of which was answered so
pub record Refines (past : List EpCall) (now : Stage) : Type 0 where
  pub answered : AllAnswered past
  pub stage : now ≡ stage past
