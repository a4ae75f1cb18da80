use Rattle.std.proofs.Common.{rules, ◌≡◌, length, [], ◌+◌, ◌∷◌, ◌++◌, arith, map, ap, refl, length-append}
use Rattle.std.specs.Str.Lines.{lines}
use Rattle.script.proofs.LineLemmas.{length-lines}
use Rattle.script.proofs.ScriptLemmas.{read_none, read_some}
use Rattle.script.specs.declared.read.Line.{Line}
use Rattle.script.proofs.read.push_lines.Goals as goal

pub overflow_add-number : goal.overflow_add-number
overflow_add-number c =
    let most = length-lines c.args.text.now in
    let parts = length-append (map (λ x. x.now) c.loop-line.yielded) (lines c.loop-line.line-iterator.rest.now) in
    omega (arith, most, parts, ap length c.loop-line.invariant.cut)

pub loop-line-preserved-in-Ok-None : goal.loop-line-preserved-in-Ok-None
loop-line-preserved-in-Ok-None c =
    read_none _ _ _ _ _ _ _ _ c.loop-line.invariant c.in-Some.ensures.steps (rw c.in-Ok-None.field-0-is at c.in-Ok-None.ensures.said)

pub loop-line-preserved : goal.loop-line-preserved
loop-line-preserved c =
    let last : Line = record { number = c.loop-line.number + 1; statement = c.in-Ok-Some.statement } in
    let pushed : c.push.new.self.items ≡ c.loop-line.said.items ++ last ∷ [] = search rules in
    rw pushed (read_some _ _ _ _ _ _ _ _ last c.loop-line.invariant c.in-Some.ensures.steps refl (rw c.in-Ok-Some.field-0-is at c.in-Ok-Some.ensures.said))
