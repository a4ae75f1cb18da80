-- Representation: what callers of the parser know of it, by name alone.
use Rattle.shapes.specs.Shapes.{Bytes}
use Rattle.std.specs.Prelude.{◌≡◌, Some}
use Rattle.descriptor_parse.specs.declared.fault.ParseError.{ParseError}
use Rattle.descriptor_parse.specs.declared.parser.Parser.{Parser}
use Rattle.descriptor_parse.specs.representation.Fed.{WasFed}

-- A parser was fed these bytes, in whatever pieces.
abbrev pub Refines : Bytes → Parser → Type 0
Refines text parser = WasFed text parser.reading parser.refused

-- a parser has answered this refusal, and does so for good
abbrev pub HasRefused : ParseError → Parser → Type 0
HasRefused e parser = parser.refused ≡ Some e
