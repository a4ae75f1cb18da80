use Rattle.std.proofs.Common.{arith}
use Rattle.descriptor_parse.specs.Descriptor.{usage_list}
use Rattle.report_write.proofs.Controls.{place_found}
use Rattle.report_write.proofs.Hinted.{none_until}
use Rattle.report_write.proofs.Walked.{range_counted, range_skipped, served_here, served_past}
use Rattle.report_write.proofs.control.place_with.Goals as goal
use Rattle.report_write.proofs.control.place_with.Goals.{in-Some+else-left-eq0, in_default}

pub loop-range-init : goal.loop-range-init
loop-range-init c =
    let none = none_until c.args.declared.now.field c.args.declared.now.ranges.now c.args.usage c.args.from c.min-range.result
    c.requires.variable c.requires.before (omega (arith, c.min-range.ensures)) (omega (arith, c.min-range.ensures)) in
    omega (arith, none)

pub returns-then-left-eq0-clause-here : goal.returns-then-left-eq0-clause-here
returns-then-left-eq0-clause-here c =
    let field = c.args.declared.now.field in
    let ranges = c.args.declared.now.ranges.now in
    let its = range_counted field ranges c.loop-range.range c.args.usage c.in-Some.place c.requires.variable c.loop-range-test.true c.in-Some.ensures in
    place_found field (usage_list ranges) c.args.usage c.in-Some.place field.count c.args.number c.in-Some.ensures.within its.1
    (omega (arith, its.0, c.loop-range.invariant, c.if-left-eq0.true))

pub loop-range-preserved : goal.loop-range-preserved
loop-range-preserved c =
    let field = c.args.declared.now.field in
    let ranges = c.args.declared.now.ranges.now in
    elim c.match-place_in_range.branch [
      | in-Some+else-left-eq0 w ↦ (
          let its = range_counted field ranges c.loop-range.range c.args.usage w.in-Some.place c.requires.variable c.loop-range-test.true w.in-Some.ensures in
          omega (arith, w.left-is, w.if-left-eq0, its.2, c.loop-range.invariant))
      | in_default w ↦ (
          let none = range_skipped field ranges c.loop-range.range c.args.usage c.requires.variable c.loop-range-test.true w.in_default.ensures in
          omega (arith, w.left-is, none, c.loop-range.invariant))
    ]

pub returns-then-left-served-clause-here : goal.returns-then-left-served-clause-here
returns-then-left-served-clause-here c =
    served_here c.args.declared.now.field c.args.declared.now.ranges.now c.loop-range.range c.args.usage c.served_by_last-served.result c.loop-range.left c.args.number
    c.requires.variable (omega (arith, c.loop-range-test.false)) c.served_by_last-served.ensures c.loop-range.invariant c.if-left-served.true

pub returns-else-left-served-clause-past : goal.returns-else-left-served-clause-past
returns-else-left-served-clause-past c =
    served_past c.args.declared.now.field c.args.declared.now.ranges.now c.loop-range.range c.args.usage c.served_by_last-served.result c.loop-range.left c.args.number
    c.requires.variable (omega (arith, c.loop-range-test.false)) c.served_by_last-served.ensures c.loop-range.invariant (omega (arith, c.if-left-served.false))
