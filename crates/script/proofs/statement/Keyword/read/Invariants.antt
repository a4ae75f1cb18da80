use Rattle.std.proofs.Common.{◌≢◌, ◌<◌, ℕ, get_or}
use Rattle.script.specs.Statements.{spelling}
use Rattle.script.specs.declared.statement.Keyword.TheVariants.{Scan}
use Rattle.script.proofs.statement.Keyword.read.Given as goal

-- none of the keywords so far spells the word
abbrev pub invariant-loop-keyword : goal.invariant-loop-keyword
invariant-loop-keyword l = (i : ℕ) → i < l.keyword-index → spelling (get_or l.keyword-items i Scan) ≢ l.word
