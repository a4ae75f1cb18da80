use Rattle.std.proofs.Common.{◌∙◌, sym}
use Rattle.report_write.proofs.ControlsFit.{by_usage, by_field, usage_fits, place_fits}
use Rattle.report_write.proofs.Knowing.{usage_of_report, place_of_report}
use Rattle.report_write.proofs.control.control_by.Goals as goal

pub returns-in-Usage-clause-control : goal.returns-in-Usage-clause-control
returns-in-Usage-clause-control c =
    rw c.in-Usage.is (c.control_with.ensures ∙ sym (by_usage c.args.descriptor.now c.args.kept.now c.in-Usage.usage c.in-Usage.place))

pub returns-in-Usage-clause-fits : goal.returns-in-Usage-clause-fits
returns-in-Usage-clause-fits c = λ room all.
    rw c.control_with.ensures (usage_fits c.args.descriptor.now room c.args.kept.now c.in-Usage.usage c.in-Usage.place all)

pub returns-in-Field-clause-control : goal.returns-in-Field-clause-control
returns-in-Field-clause-control c =
    rw c.in-Field.is (c.place_of.ensures ∙ sym (by_field c.args.descriptor.now c.args.kept.now c.in-Field.field c.in-Field.place))

pub returns-in-Field-clause-fits : goal.returns-in-Field-clause-fits
returns-in-Field-clause-fits c = λ room all.
    rw c.place_of.ensures (place_fits c.args.descriptor.now room c.args.kept.now c.in-Field.field c.in-Field.place all)

pub returns-in-Usage-clause-its : goal.returns-in-Usage-clause-its
returns-in-Usage-clause-its c =
    rw c.control_with.ensures (usage_of_report c.args.descriptor.now c.args.kept.now c.args.hints.now.fields.items c.args.hints.now.ranges.items
    c.in-Usage.usage c.in-Usage.place c.requires.hints)

pub returns-in-Field-clause-its : goal.returns-in-Field-clause-its
returns-in-Field-clause-its c =
    rw c.place_of.ensures (place_of_report c.args.descriptor.now c.args.kept.now c.args.hints.now.ranges.items c.in-Field.place _)
