use Rattle.std.proofs.Common.{sym}
use Rattle.descriptor_parse.specs.ItemViews.{item_view}
use Rattle.descriptor_parse.proofs.StateLemmas.{not_long}
use Rattle.lenient_parse.proofs.SizeLemmas.{refine_kept, not_global}
use Rattle.lenient_parse.proofs.sizes.take.Goals as goal

pub take_global-requires : goal.take_global-requires
take_global-requires c = c.requires (not_long _ _ c.in-Global.ensures (λ s. cc))

pub returns-in_default : goal.returns-in_default
returns-in_default c = λ before s.
    refine_kept before (item_view c.args.item.now) c.tag.result c.args.sizes.now (sym c.tag.ensures) (not_global _ c.in_default.not-Global) s
