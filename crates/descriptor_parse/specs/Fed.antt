-- Trusted: an answer to every text that begins with some bytes.
use Rattle.shapes.specs.Shapes.{Bytes}
use Rattle.std.specs.Prelude.{◌++◌}
use Rattle.descriptor_parse.specs.declared.fault.ParseError.{ParseError}
use Rattle.descriptor_parse.specs.Parse.{Refuses}

-- an answer to every text that begins with these bytes
abbrev pub RefusesAll : Bytes → ParseError → Type 0
RefusesAll text e = (more : Bytes) → Refuses (text ++ more) e
