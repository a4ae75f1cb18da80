use Rattle.std.proofs.Common.{◌≡◌, ◌≤◌, ◌+◌, ℕ}
use Rattle.settings_log.proofs.moving.heads_from.Given as goal

-- as many heads as slots were passed, at most
pub record SoFar (from slot count page next batch_page : ℕ) : Type 0 where
  pub most : count ≤ 16
  pub passed : from + count ≤ slot
  pub page_is : batch_page ≡ page
  pub next_is : next ≡ 512

abbrev pub invariant-loop-slot : goal.invariant-loop-slot
invariant-loop-slot g l = SoFar l.from l.slot l.count l.page l.batch.next l.batch.page
