use Rattle.std.proofs.Common.{◌≡◌, sym, ◌∙◌, ap, ◌++◌, ◌∷◌, [], cond, true}
use Rattle.field_details.specs.representation.Relation.{end_in, end_of}
use Rattle.field_details.specs.Reports.{is_of_report}
use Rattle.field_details.proofs.ReportLemmas.{end_in_more, end_in_none}
use Rattle.field_details.proofs.report.end_of_report.Goals as goal

pub returns-then-is_of_report : goal.returns-then-is_of_report
returns-then-is_of_report c =
    let mine : is_of_report c.args.kind c.args.id c.in-Some.last.now ≡ true = sym c.is_of_report.ensures ∙ c.if-is_of_report.true in
    let last : end_in c.args.kind c.args.id (c.in-Some.front.now ++ c.in-Some.last.now ∷ []) ≡ end_of c.in-Some.last.now =
    end_in_more c.args.kind c.args.id c.in-Some.front.now c.in-Some.last.now ∙ ap (λ b. cond b (end_of c.in-Some.last.now) (end_in c.args.kind c.args.id c.in-Some.front.now)) mine in
    c.end.ensures ∙ sym last ∙ ap (end_in c.args.kind c.args.id) (sym c.in-Some.ensures.cases.0) ∙ c.loop-last.invariant

pub returns : goal.returns
returns c = end_in_none c.args.kind c.args.id c.loop-last.rest.now c.in_default.ensures.cases ∙ c.loop-last.invariant
