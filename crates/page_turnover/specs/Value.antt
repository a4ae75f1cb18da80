-- Trusted: what a log holds.
use Rattle.std.specs.Prelude.{ℕ, Option}
use Rattle.page_turnover.specs.declared.log.ActivePage.{ActivePage}

-- what is known of the page that a compaction writes: nothing yet, or that it holds this many copies and is Free elsewhere
pub data Target : Type 0 where
  Unread : Target
  Holds : ℕ → Target

-- what a log has under way: nothing, an append, or a compaction that waits for a copy or its commit header, or was offered one of them
pub data Task : Type 0 where
  Rest : Task
  Append : ℕ → Task
  Wait : Target → Task
  Copy : Target → ℕ → Task
  Seal : Target → Task

-- what a log holds: its active page, the lowest page with an unsound slot 0, and what is under way
pub record LogValue : Type 0 where
  pub active : Option ActivePage
  pub unsound : Option ℕ
  pub task : Task
