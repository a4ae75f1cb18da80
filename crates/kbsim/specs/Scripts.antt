-- Trusted: why a script is not run to its end.
use Rattle.shapes.specs.Shapes.{Bytes}
use Rattle.std.specs.Prelude.{ℕ, ◌<◌, ◌≤◌, ◌⊎◌, List, length, Option, IfSome, ⊤}
use Rattle.std.specs.Str.Lines.{lines}
use Rattle.text_io.specs.Readers.{longest}
use Rattle.script.specs.Scripts.{Script, IsFirstFault}
use Rattle.script.specs.declared.read.Line.{Line}
use Rattle.kbsim.specs.declared.fault.RunError.{RunError}
use Rattle.kbsim.specs.declared.fault.RunError.TheVariants as error

-- a text is short enough, and each of its lines says something or nothing
pub record IsSound (pages : ℕ) (text : Bytes) : Type 0 where
  pub said : List Line
  pub short : length text ≤ longest
  pub script : Script pages 1 (lines text) said

-- why the run of a script ends early, where its text is known
abbrev pub IsRunFault : ℕ → Option Bytes → RunError → Type 0
IsRunFault pages text (error.Line number fault) = IfSome text (λ t. (length t ≤ longest) × IsFirstFault pages (lines t) number fault)
IsRunFault pages text error.TooLong = IfSome text (λ t. longest < length t)
IsRunFault pages text error.PageCount = (pages < 2) ⊎ (8 < pages)
IsRunFault pages text error.Image = ⊥
IsRunFault pages text error.Input = ⊤
IsRunFault pages text error.Output = ⊤
IsRunFault pages text error.Memory = ⊤

-- these come before the first event, and one of them alone is printed
abbrev pub IsEarly : RunError → Type 0
IsEarly (error.Line number fault) = ⊤
IsEarly error.TooLong = ⊤
IsEarly error.Input = ⊤
IsEarly error.Image = ⊤
IsEarly _ = ⊥
