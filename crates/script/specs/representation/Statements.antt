-- Representation: what comes of reading a line.
use Rattle.shapes.specs.Shapes.{Bytes}
use Rattle.std.specs.Prelude.{ℕ, List, ◌∷◌, Result, MatchResult}
use Rattle.script.specs.declared.fault.LineFault.{LineFault}
use Rattle.script.specs.declared.statement.Keyword.{Keyword}
use Rattle.script.specs.declared.statement.Statement.{Statement}
use Rattle.script.specs.Statements.{spelling, IsArgumentFault, Says}

-- what comes of reading the words after a first word
abbrev pub Reads : ℕ → Keyword → List Bytes → Result Statement LineFault → Type 0
Reads pages k arguments result = MatchResult result (λ s. Says pages s (spelling k ∷ arguments)) (λ f. IsArgumentFault pages k arguments f)
