use Rattle.std.proofs.Common.{◌∙◌, sym, ap}
use Rattle.std.specs.Prelude.{◌==◌}
use Rattle.std.proofs.lemmas.Bool.{eq-eqb, ne_eqb}
use Rattle.report_write.specs.Controls.{place_in}
use Rattle.report_write.proofs.Controls.{find_more, find_here}
use Rattle.report_write.proofs.control.place_of.Goals as goal

pub returns-then-kept-number : goal.returns-then-kept-number
returns-then-kept-number c =
    c.place_in.ensures ∙ ap (place_in c.args.place)
    (sym (find_here (λ k. k.number == c.args.field) c.args.kept.now c.loop-number.number _ c.loop-number-test.true c.loop-number.invariant
    (eq-eqb _ _ c.if-kept-number.true)))

pub loop-number-preserved : goal.loop-number-preserved
loop-number-preserved c =
    find_more (λ k. k.number == c.args.field) c.args.kept.now c.loop-number.number _ c.loop-number-test.true c.loop-number.invariant
    (ne_eqb _ _ c.if-kept-number.false)
