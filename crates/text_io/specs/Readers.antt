-- Trusted where this crate is called: what comes of reading a whole text.
use Rattle.shapes.specs.Shapes.{Bytes}
use Rattle.std.specs.Prelude.{ℕ, ◌<◌, length, Option, IfSome, ⊤}
use Rattle.text_io.specs.declared.fault.ReadError.{ReadError}
use Rattle.text_io.specs.declared.fault.ReadError.TheVariants as error

-- the most bytes of a text that is read to be checked as a whole: of a script, or of a descriptor in hex
abbrev pub longest : ℕ
longest = 1048576

-- why the text of a reader was not read, of which at most so many bytes were wanted; by what the reader has left, where that
-- is known: TooLong only where it is more
abbrev pub IsReadError : ℕ → Option Bytes → ReadError → Type 0
IsReadError most left error.TooLong = IfSome left (λ all. most < length all)
IsReadError most left error.Input = ⊤
IsReadError most left error.Memory = ⊤
