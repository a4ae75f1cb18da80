use Rattle.std.proofs.Common.{◌∙◌, ◌*◌, length, sym, ap, Some, None}
use Rattle.std.proofs.lemmas.Result.{IfOk-weaker}
use Rattle.report_write.proofs.SettingsSet.{refused_by, set_by}
use Rattle.report_write.proofs.Knowing.{known_on}
use Rattle.report_write.proofs.writing.set.Goals as goal

pub returns-in-None-clause-refused : goal.returns-in-None-clause-refused
returns-in-None-clause-refused c =
    let found = sym c.control_by.ensures.control ∙ c.in-None.is in
    refused_by c.args.descriptor.now c.args.kept.now c.args.bytes.now c.args.marks.now c.args.number c.args.setting.now None found

pub returns-in-Some-Place-clause-taken : goal.returns-in-Some-Place-clause-taken
returns-in-Some-Place-clause-taken c =
    let found = sym c.control_by.ensures.control ∙ c.in-Some-Place.is ∙ ap Some c.in-Some-Place.field-0-is in
    rw (refused_by c.args.descriptor.now c.args.kept.now c.args.bytes.now c.args.marks.now c.args.number c.args.setting.now _ found) c.set_one.ensures.taken

pub returns-in-Some-Place-clause-refused : goal.returns-in-Some-Place-clause-refused
returns-in-Some-Place-clause-refused c =
    let found = sym c.control_by.ensures.control ∙ c.in-Some-Place.is ∙ ap Some c.in-Some-Place.field-0-is in
    rw (refused_by c.args.descriptor.now c.args.kept.now c.args.bytes.now c.args.marks.now c.args.number c.args.setting.now _ found) c.set_one.ensures.refused

pub returns-in-Some-Place-clause-set : goal.returns-in-Some-Place-clause-set
returns-in-Some-Place-clause-set c =
    let found = sym c.control_by.ensures.control ∙ c.in-Some-Place.is ∙ ap Some c.in-Some-Place.field-0-is in
    IfOk-weaker c.set_one.result _ _ (λ _ s. set_by c.args.descriptor.now c.args.kept.now c.args.setting.now c.args.bytes.now c.set_one.new.bytes
    c.args.marks.now c.set_one.new.marks _ found s) c.set_one.ensures.set

pub returns-in-Some-Usage-clause-taken : goal.returns-in-Some-Usage-clause-taken
returns-in-Some-Usage-clause-taken c =
    let found = sym c.control_by.ensures.control ∙ c.in-Some-Usage.is ∙ ap Some c.in-Some-Usage.field-0-is in
    rw (refused_by c.args.descriptor.now c.args.kept.now c.args.bytes.now c.args.marks.now c.args.number c.args.setting.now _ found) c.set_usage.ensures.taken

pub returns-in-Some-Usage-clause-refused : goal.returns-in-Some-Usage-clause-refused
returns-in-Some-Usage-clause-refused c =
    let found = sym c.control_by.ensures.control ∙ c.in-Some-Usage.is ∙ ap Some c.in-Some-Usage.field-0-is in
    rw (refused_by c.args.descriptor.now c.args.kept.now c.args.bytes.now c.args.marks.now c.args.number c.args.setting.now _ found) c.set_usage.ensures.refused

pub returns-in-Some-Usage-clause-set : goal.returns-in-Some-Usage-clause-set
returns-in-Some-Usage-clause-set c =
    let found = sym c.control_by.ensures.control ∙ c.in-Some-Usage.is ∙ ap Some c.in-Some-Usage.field-0-is in
    IfOk-weaker c.set_usage.result _ _ (λ _ s. set_by c.args.descriptor.now c.args.kept.now c.args.setting.now c.args.bytes.now c.set_usage.new.bytes
    c.args.marks.now c.set_usage.new.marks _ found s) c.set_usage.ensures.set

pub know-requires-clause-known : goal.know-requires-clause-known
know-requires-clause-known c = λ of.
    let its = rw c.in-Some-Usage.field-0-is at c.in-Some-Usage.ensures.its in
    rw (c.usages_of.ensures.field, c.usages_of.ensures.ranges) (c.requires.known its.0.0 c.in-Some-Usage.field its.0.1 of)

pub set_usage-requires-clause-fits : goal.set_usage-requires-clause-fits
set_usage-requires-clause-fits c =
    (rw c.in-Some-Usage.field-0-is at (c.in-Some-Usage.ensures.fits (8 * length c.args.bytes.now) c.requires.fit)).0

pub set_usage-requires-clause-array : goal.set_usage-requires-clause-array
set_usage-requires-clause-array c =
    (rw c.in-Some-Usage.field-0-is at (c.in-Some-Usage.ensures.fits (8 * length c.args.bytes.now) c.requires.fit)).1

pub returns-in-Some-Usage-clause-known : goal.returns-in-Some-Usage-clause-known
returns-in-Some-Usage-clause-known c =
    let its = rw c.in-Some-Usage.field-0-is at c.in-Some-Usage.ensures.its in
    IfOk-weaker c.set_usage.result _ _ (λ _ s. known_on c.args.descriptor.now c.args.kept.now c.set_usage.new.bytes c.set_usage.new.marks c.know.new.known.field
    c.set_usage.new.known.field c.set_usage.new.known.free c.set_usage.new.known.named.items its.0.0 c.in-Some-Usage.field c.requires.one its.0.1 c.know.ensures.field s)
    c.set_usage.ensures.known
