use Rattle.std.proofs.Common.{◌∙◌, ap}
use Rattle.report_read.specs.Values.{ReadingValue}
use Rattle.report_read.proofs.Asked.{field_found, taken, no_field, not_read, never_memory}
use Rattle.report_read.proofs.Compared.{id_read}
use Rattle.report_read.proofs.stream.buffered_field.Goals as goal

pub returns-in-Some-clause-field : goal.returns-in-Some-clause-field
returns-in-Some-clause-field c =
    let r = c.args.reader.now in
    let id = c.id.ensures ∙ ap (λ (x : ReadingValue). x.id) c.in-Ok.ensures.read ∙ id_read r c.args.kind c.args.report.now in
    field_found r c.args.kind c.args.report.now c.args.number c.id.result _ id c.in-Some.ensures.field

pub returns-in-Some-clause-taken : goal.returns-in-Some-clause-taken
returns-in-Some-clause-taken c =
    let r = c.args.reader.now in
    let id = c.id.ensures ∙ ap (λ (x : ReadingValue). x.id) c.in-Ok.ensures.read ∙ id_read r c.args.kind c.args.report.now in
    taken r c.args.kind c.args.report.now c.args.number c.in-Some.found c.in-Ok.ensures.taken
    (field_found r c.args.kind c.args.report.now c.args.number c.id.result _ id c.in-Some.ensures.field)

pub returns-in-None-clause-refused : goal.returns-in-None-clause-refused
returns-in-None-clause-refused c = λ _.
    let r = c.args.reader.now in
    let id = c.id.ensures ∙ ap (λ (x : ReadingValue). x.id) c.in-Ok.ensures.read ∙ id_read r c.args.kind c.args.report.now in
    no_field r c.args.kind c.args.report.now c.args.number c.in-Ok.ensures.taken
    (field_found r c.args.kind c.args.report.now c.args.number c.id.result _ id c.in-None.ensures.field)

pub returns-in-Err-clause-refused : goal.returns-in-Err-clause-refused
returns-in-Err-clause-refused c = λ _. not_read c.args.reader.now c.args.kind c.args.report.now c.args.number c.in-Err.error c.in-Err.ensures.refused

pub returns-in-Err-clause-memory : goal.returns-in-Err-clause-memory
returns-in-Err-clause-memory c = λ m. absurd (never_memory c.args.reader.now.descriptor c.args.kind c.args.report.now c.in-Err.error c.in-Err.ensures.refused m)
