use Rattle.std.proofs.Common.{◌∙◌, sym, arith}
use Rattle.settings.proofs.Tables.{front_value, front_other, own-free, own-other, nothing_kept}
use Rattle.settings.proofs.table.table_value.Goals as goal

pub loop-rest-preserved-in_default-value : goal.loop-rest-preserved-in_default-value
loop-rest-preserved-in_default-value c =
    front_other c.loop-rest.rest.now c.entry-item.result _ c.args.id c.in-len1-up.len_at_least c.entry-item.is (own-free c.entry-item.result c.args.id c.in_default-value.is) ∙ c.loop-rest.invariant

pub loop-rest-preserved : goal.loop-rest-preserved
loop-rest-preserved c =
    front_other c.loop-rest.rest.now c.entry-item.result _ c.args.id c.in-len1-up.len_at_least c.entry-item.is (own-other c.entry-item.result c.args.id c.if-entry-id.false) ∙ c.loop-rest.invariant

pub returns-in-Some-clause-value : goal.returns-in-Some-clause-value
returns-in-Some-clause-value c =
    sym c.loop-rest.invariant ∙ front_value c.loop-rest.rest.now c.entry-item.result _ c.args.id c.in-Some.value c.in-len1-up.len_at_least c.entry-item.is c.if-entry-id.true c.in-Some.is

pub returns-in-Some-clause-mirrored : goal.returns-in-Some-clause-mirrored
returns-in-Some-clause-mirrored c image m =
    sym (m c.args.id (omega (arith, c.ranges.id.fits)))
    ∙ sym c.loop-rest.invariant ∙ front_value c.loop-rest.rest.now c.entry-item.result _ c.args.id c.in-Some.value c.in-len1-up.len_at_least c.entry-item.is c.if-entry-id.true c.in-Some.is

pub returns-clause-value : goal.returns-clause-value
returns-clause-value c = sym c.loop-rest.invariant ∙ nothing_kept c.loop-rest.rest.now c.args.id c.in_default.len_below

pub returns-clause-mirrored : goal.returns-clause-mirrored
returns-clause-mirrored c image m = sym (m c.args.id (omega (arith, c.ranges.id.fits))) ∙ sym c.loop-rest.invariant ∙ nothing_kept c.loop-rest.rest.now c.args.id c.in_default.len_below
