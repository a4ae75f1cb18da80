use Rattle.std.proofs.Common.{◌∙◌, sym}
use Rattle.settings.proofs.Naming.{changed-is, front_own, front_skip, none_left}
use Rattle.settings.proofs.lookup.value_after.Goals as goal

pub loop-rest-init : goal.loop-rest-init
loop-rest-init g c = rw c.value_in-value.ensures (changed-is (g.F.NorFlash.image c.args.flash.now) c.args.changes.now c.args.id)

pub loop-rest-preserved-then-change-id : goal.loop-rest-preserved-then-change-id
loop-rest-preserved-then-change-id g c =
    rw c.copied-value.ensures (sym (front_own c.loop-rest.value c.loop-rest.rest.now c.change-item.result _ c.args.id c.in-len1-up.len_at_least c.change-item.is c.if-change-id.true) ∙ c.loop-rest.invariant)

pub loop-rest-preserved : goal.loop-rest-preserved
loop-rest-preserved g c =
    sym (front_skip c.loop-rest.value c.loop-rest.rest.now c.change-item.result _ c.args.id c.in-len1-up.len_at_least c.change-item.is c.if-change-id.false) ∙ c.loop-rest.invariant

pub returns : goal.returns
returns g c = sym (none_left c.loop-rest.value c.loop-rest.rest.now c.args.id c.in_default.len_below) ∙ c.loop-rest.invariant
