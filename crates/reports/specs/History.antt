-- Trusted where this crate is called: the latest poll that sent a report, said of a past that is cut there, newest first.
use Rattle.shapes.specs.Shapes.{Bytes}
use Rattle.std.specs.Prelude.{◌≡◌, ℕ, false, List, None, All, count_by}
use Rattle.reports.specs.declared.Input.{Input}
use Rattle.reports.specs.Calls.{PollerCall, forgets, is_tick}
use Rattle.reports.specs.Poll.{sent_by, last_bytes, age}

-- none of these calls sent the report, and none forgot it
pub record NoneSent (report : Input) (calls : List PollerCall) : Type 0 where
  pub kept : All (λ call. forgets call ≡ false) calls
  pub none : All (λ call. sent_by report call ≡ None) calls

-- how many scans there were
abbrev pub scans : List PollerCall → ℕ
scans calls = count_by is_tick calls

-- what counts as sent last of a report, and how many scans ago
pub record Last (report : Input) (past : List PollerCall) (bytes : Bytes) (ago : ℕ) : Type 0 where
  pub bytes_are : last_bytes report past ≡ bytes
  pub age_is : age report past ≡ ago
