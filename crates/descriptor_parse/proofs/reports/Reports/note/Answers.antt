use Rattle.std.proofs.Common.{refl}
use Rattle.descriptor_parse.proofs.ReportLemmas.{refine_noted_id, refine_noted}
use Rattle.descriptor_parse.proofs.reports.Reports.note.Goals as goal

pub returns-in-ReportId : goal.returns-in-ReportId
returns-in-ReportId c = λ before item e s. refine_noted_id before item c.args.tag c.args.self.now _ e c.in-ReportId.is refl refl refl refl refl refl refl s

pub returns-in_default : goal.returns-in_default
returns-in_default c = λ before item e s. refine_noted before item c.args.tag c.args.self.now e c.in_default.not-ReportId s
