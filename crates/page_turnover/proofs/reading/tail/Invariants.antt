use Rattle.std.proofs.Common.{◌*◌, ◌≤◌, ℕ, List}
use Rattle.page_turnover.specs.Words.{FreeFrom}
use Rattle.page_turnover.proofs.reading.tail.Given as goal

-- the slots from a block on are Free
pub record BlocksSoFar (image : List ℕ) (page block : ℕ) : Type 0 where
  pub least : 1 ≤ block
  pub most : block ≤ 64
  pub rest : FreeFrom image page (8 * block)

abbrev pub invariant-loop-block : goal.invariant-loop-block
invariant-loop-block g l = BlocksSoFar (g.F.NorFlash.image l.flash) l.page l.block

abbrev pub decreases-loop-block : goal.decreases-loop-block
decreases-loop-block g l = l.block

-- the slots from the tail on are Free
pub record SoFar (image : List ℕ) (page tail : ℕ) : Type 0 where
  pub low : 1 ≤ tail
  pub high : tail ≤ 512
  pub free : FreeFrom image page tail

abbrev pub invariant-loop-tail : goal.invariant-loop-tail
invariant-loop-tail g l = SoFar (g.F.NorFlash.image l.flash) l.page l.tail

abbrev pub decreases-loop-tail : goal.decreases-loop-tail
decreases-loop-tail g l = l.tail
