-- Trusted: a whole script.
use Rattle.shapes.specs.Shapes.{Bytes}
use Rattle.std.specs.Prelude.{◌≡◌, ℕ, ◌+◌, ◌==◌, ◌⊎◌, if◌then◌else◌, List, [], ◌∷◌, ◌++◌, length, slice_index}
use Rattle.script.specs.Statements.{Says, IsFault}
use Rattle.script.specs.Words.{words}
use Rattle.script.specs.declared.fault.LineFault.{LineFault}
use Rattle.script.specs.declared.fault.ScriptError.{ScriptError}
use Rattle.script.specs.declared.fault.ScriptError.TheVariants as error
use Rattle.script.specs.declared.read.Line.{Line}
use Rattle.script.specs.declared.statement.Statement.{Statement}

-- the words of a line; a line that begins with `#` has none
abbrev pub words_in : Bytes → List Bytes
words_in line = if slice_index line 0 == 35 then [] else words line

-- what these lines say, in order and each under its number, where the first of them has this number
abbrev pub Script : ℕ → ℕ → List Bytes → List Line → Type 0
Script pages number [] said = said ≡ []
Script pages number (line ∷ lines) said =
    ((words_in line ≡ []) × Script pages (number + 1) lines said)
    ⊎ ((first : Line) × (rest : List Line) × (said ≡ first ∷ rest) × (first.number ≡ number)
    × Says pages first.statement (words_in line) × Script pages (number + 1) lines rest)

-- the first line with a fault: the lines before it say something, or nothing
pub record IsFirstFault (pages : ℕ) (lines : List Bytes) (number : ℕ) (fault : LineFault) : Type 0 where
  pub before : List Bytes
  pub line : Bytes
  pub after : List Bytes
  pub said : List Line
  pub cut : lines ≡ before ++ line ∷ after
  pub place : number ≡ length before + 1
  pub sound : Script pages 1 before said
  pub faulty : IsFault pages (words_in line) fault

-- a line that says something: the lines before it say something, or nothing
pub record AsksForRoom (pages : ℕ) (lines : List Bytes) : Type 0 where
  pub before : List Bytes
  pub line : Bytes
  pub after : List Bytes
  pub said : List Line
  pub statement : Statement
  pub cut : lines ≡ before ++ line ∷ after
  pub sound : Script pages 1 before said
  pub says : Says pages statement (words_in line)

-- why these lines are refused
abbrev pub IsRefusal : ℕ → List Bytes → ScriptError → Type 0
IsRefusal pages lines (error.Line number fault) = IsFirstFault pages lines number fault
IsRefusal pages lines error.Memory = AsksForRoom pages lines
