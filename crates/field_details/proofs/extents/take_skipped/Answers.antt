use Rattle.std.proofs.Common.{refl, ap, sym, ◌∙◌, ◌-◌, ◌%◌}
use Rattle.field_details.specs.representation.Relation.{extents_by}
use Rattle.field_details.proofs.ExtentLemmas.{refine_skipped}
use Rattle.field_details.proofs.extents.take_skipped.Goals as goal

pub returns : goal.returns
returns c = λ before item e prefix bytes s.
    refine_skipped before item _ _ e
    (c.set.ensures ∙ ap (λ b. extents_by (c.args.prefix - c.args.prefix % 4) b c.args.extents.now.now) (sym bytes)
    ∙ ap (λ p. extents_by (p - p % 4) item.bytes c.args.extents.now.now) (sym prefix)) refl s
