use Rattle.std.proofs.Common.{refl, ap, sym, ◌∙◌, ℕ}
use Rattle.descriptor_parse.specs.declared.tag.Tag.TheVariants.{Global}
use Rattle.descriptor_parse.specs.Globals.{unsigned}
use Rattle.lenient_parse.specs.declared.sizes.Sizes.{Sizes}
use Rattle.lenient_parse.specs.representation.Relation.{sizes_of}
use Rattle.lenient_parse.proofs.SizeLemmas.{sizes_push, refine_size, refine_count, refine_kept, other}
use Rattle.lenient_parse.proofs.sizes.take_global.Goals as goal

pub returns-in_ok-save-in-Push : goal.returns-in_ok-save-in-Push
returns-in_ok-save-in-Push c = λ before item e bytes s.
    c.in_ok-save-in-Push.ensures sizes_of before item (λ items. sizes_push item items (e ∙ ap Global c.in-Push.is)) (e ∙ ap Global c.in-Push.is) s

pub returns-in-Pop : goal.returns-in-Pop
returns-in-Pop c = λ before item e bytes s. c.restore.ensures sizes_of before item (e ∙ ap Global c.in-Pop.is) s

pub returns-in-ReportSize : goal.returns-in-ReportSize
returns-in-ReportSize c = λ before item e bytes s.
    let f : ℕ → Sizes = λ n. record { size = n; count = c.args.sizes.now.now.count } in
    refine_size before item c.args.sizes.now _ (e ∙ ap Global c.in-ReportSize.is)
    (ap f (c.unsigned-sizes.ensures ∙ ap unsigned (sym bytes))) refl s

pub returns-in-ReportCount : goal.returns-in-ReportCount
returns-in-ReportCount c = λ before item e bytes s.
    let f : ℕ → Sizes = λ n. record { size = c.args.sizes.now.now.size; count = n } in
    refine_count before item c.args.sizes.now _ (e ∙ ap Global c.in-ReportCount.is)
    (ap f (c.unsigned-sizes-in-ReportCount.ensures ∙ ap unsigned (sym bytes))) refl s

pub returns-in_default : goal.returns-in_default
returns-in_default c = λ before item e bytes s.
    refine_kept before item (Global c.args.tag) c.args.sizes.now e
    (other _ c.in_default.not-Push c.in_default.not-Pop c.in_default.not-ReportSize c.in_default.not-ReportCount) s
