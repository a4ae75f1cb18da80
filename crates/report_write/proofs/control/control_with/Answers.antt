use Rattle.std.proofs.Common.{◌∙◌, sym, arith}
use Rattle.std.proofs.lemmas.Option.{slice_get_within}
use Rattle.descriptor_parse.specs.Descriptor.{usage_list, ranges_at}
use Rattle.report_write.specs.Controls.{controls_in}
use Rattle.report_write.proofs.Controls.{controls_are, row_found, row_past}
use Rattle.report_write.proofs.Hinted.{none_before}
use Rattle.report_write.proofs.control.control_with.Goals as goal

pub loop-number-init : goal.loop-number-init
loop-number-init c =
    let none = none_before c.args.descriptor.now c.args.kept.now c.args.usage c.args.from.0 c.args.from.1 c.requires in
    omega (arith, none)

pub returns-in-Ok : goal.returns-in-Ok
returns-in-Ok c =
    let here = rw c.usages_of-declared.ensures.ranges at c.in-Ok.ensures.here in
    let within = slice_get_within _ _ _ here in
    let all = controls_are c.args.descriptor.now c.args.usage c.args.kept.now in
    rw all (sym here ∙ sym (row_found (λ k. controls_in (usage_list (ranges_at c.args.descriptor.now k.number)) c.args.usage k) c.args.kept.now
    c.loop-number.number c.loop-number.left c.args.place _ c.loop-number-test.true within c.loop-number.invariant))

pub returns : goal.returns
returns c =
    rw (controls_are c.args.descriptor.now c.args.usage c.args.kept.now)
    (sym (row_past (λ k. controls_in (usage_list (ranges_at c.args.descriptor.now k.number)) c.args.usage k) c.args.kept.now
    c.loop-number.number c.loop-number.left c.args.place (omega (arith, c.loop-number-test.false)) c.loop-number.invariant))
