use Rattle.std.proofs.Common.{◌<◌, ◌^◌, ap, ◌∙◌, arith}
use Rattle.field_details.specs.Collections.{innermost}
use Rattle.field_details.proofs.WalkLemmas.{detail_is}
use Rattle.field_details.proofs.walk.Walk.detail.Goals as goal

pub returns : goal.returns
returns c = λ items item e offset flags st s.
    let few : c.bits.result < 2 ^ 64 = omega arith in
    rw (c.detail_by.ensures, ← offset, ← flags)
    (detail_is items item c.args.kind _ _ c.bits.result c.innermost.result e (c.globals-globals.ensures items st) s.extents.now (c.bits.ensures items st) few (c.innermost.ensures ∙ ap innermost s.opened))
