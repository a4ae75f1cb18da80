use Rattle.std.proofs.Common.{map}
use Rattle.std.specs.Str.Lines.{lines}
use Rattle.script.proofs.ScriptLemmas.{ReadSoFar}
use Rattle.script.proofs.read.push_lines.Given as goal

abbrev pub invariant-loop-line : goal.invariant-loop-line
invariant-loop-line l =
    ReadSoFar l.pages (lines l.text) (map (λ x. x.now) l.yielded) (lines l.line-iterator.rest.now) l.number l.said.items
