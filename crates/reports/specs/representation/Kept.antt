-- Representation: what a poller keeps, which callers know only by the calls that it refines.
use Rattle.shapes.specs.Shapes.{Bytes}
use Rattle.std.specs.Prelude.{ℕ, List, Option}
use Rattle.reports.specs.declared.Input.{Input}
use Rattle.reports.specs.declared.Protocol.{Protocol}

-- of one report: the bytes that were sent last, and those that were made last
pub record SentValue : Type 0 where
  pub bytes : Bytes
  pub made : Bytes
  pub age : ℕ

-- of the three reports, which of the reports 1 and 2 was sent last, the reports that wait, both idle values, and the
-- protocol whose reports were made last
pub record Kept : Type 0 where
  pub boot : SentValue
  pub one : SentValue
  pub two : SentValue
  pub sent_last : Option Input
  pub queue : List Bytes
  pub idle_one : ℕ
  pub idle_two : ℕ
  pub made_for : Protocol
