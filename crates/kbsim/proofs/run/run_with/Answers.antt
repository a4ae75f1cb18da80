use Rattle.std.proofs.Common.{◌≡◌, ℕ, List, sym, subst}
use Rattle.script.specs.declared.read.Line.{Line}
use Rattle.std.specs.Str.Lines.{lines}
use Rattle.script.specs.Scripts.{Script}
use Rattle.kbsim.proofs.OutputLemmas.{begun}
use Rattle.kbsim.proofs.run.run_with.Goals as goal

pub returns-clause-stopped : goal.returns-clause-stopped
returns-clause-stopped g c is =
    let pages = c.pages.result in
    let said = subst (λ (x : List ℕ). Script pages 1 (lines x) c.in-Ok-lines_of.lines.items) c.as_slice.ensures.value c.in-Ok-lines_of.ensures.read in
    let same : c.as_slice-2.result.now ≡ c.in-Ok-lines_of.lines.items = c.as_slice-2.ensures.value in
    let sound = subst (λ (xs : List Line). Script pages 1 (lines c.in-Ok.text.items) xs) (sym same) said in
    let counted = subst (λ (n : ℕ). Script n 1 (lines c.in-Ok.text.items) c.as_slice-2.result.now) c.pages.ensures.count sound in
    begun c.args.flash _ _ c.as_slice-2.result.now _ _ _ c.in-Ok.ensures.read counted (c.run_lines.ensures.stopped is)
