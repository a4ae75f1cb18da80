use Rattle.std.proofs.Common.{refl}
use Rattle.reports.proofs.InWords.{length-first_bytes}
use Rattle.reports.specs.Poll.{size_of}
use Rattle.reports.proofs.input_report.InputReport.words.Goals as goal

pub returns : goal.returns
returns c = rw (← c.self.view_is, length-first_bytes c.self.inside.words (size_of c.self.inside.input)) refl
