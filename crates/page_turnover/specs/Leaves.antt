-- Trusted: what the operation that is next leaves, whole or torn: by a fault, or by a cut before anything is read back.
use Rattle.shapes.specs.Shapes.{Bytes}
use Rattle.std.specs.Prelude.{ℕ}
use Rattle.page_turnover.specs.declared.operation.Operation.{Operation}
use Rattle.page_turnover.specs.declared.operation.Operation.TheVariants.{Program, Erase}
use Rattle.page_turnover.specs.Header.{HasHeader}
use Rattle.page_turnover.specs.Usable.{IsUsable}
use Rattle.page_turnover.specs.Value.{LogValue, Task, Append, Copy, Seal}
use Rattle.page_turnover.specs.Next.{Makes, ReadsBack}
use Rattle.page_turnover.specs.Operates.{MayOperate, FillsAtMostOne}
use Rattle.page_turnover.specs.Steps.{Keeps, CommitsWord, CommitsTurn}

-- what an operation does whose target reads as intended: a record and a header commit, an erase and a copy change no word
abbrev pub IsEffect : Bytes → Task → Operation → Bytes → Type 0
IsEffect old (Append word) operation new = CommitsWord old word new
IsEffect old (Copy target word) operation new = Keeps old new
IsEffect old (Seal target) (Program page slot word) new = CommitsTurn old (Seal target) new
IsEffect old (Seal target) (Erase page) new = Keeps old new
IsEffect old _ operation new = ⊥

-- an erase makes no header that its page did not have
abbrev pub MakesNoHeader : Bytes → Operation → Bytes → Type 0
MakesNoHeader old (Program page slot word) new = Unit {0}
MakesNoHeader old (Erase page) new = (p s : ℕ) → HasHeader new p s → HasHeader old p s

-- all that is said of what the operation leaves
pub record Leaves (old : Bytes) (log : LogValue) (operation : Operation) (new : Bytes) : Type 0 where
  pub operates : MayOperate old new
  pub usable : IsUsable new
  pub fills : FillsAtMostOne old new
  pub no_header : MakesNoHeader old operation new
  pub whole : ReadsBack operation new → Makes old operation new
  pub effect : ReadsBack operation new → IsEffect old log.task operation new
  pub kept : (ReadsBack operation new → ⊥) → Keeps old new
