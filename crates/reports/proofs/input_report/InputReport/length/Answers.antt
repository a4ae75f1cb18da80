use Rattle.std.proofs.Common.{sym}
use Rattle.reports.proofs.InWords.{length-first_bytes}
use Rattle.reports.proofs.input_report.InputReport.length.Goals as goal

pub returns-in-Boot-clause-value : goal.returns-in-Boot-clause-value
returns-in-Boot-clause-value c = rw (← c.self.view_is, c.in-Boot.is) (sym (length-first_bytes c.self.inside.words 8))

pub returns-in-One-clause-value : goal.returns-in-One-clause-value
returns-in-One-clause-value c = rw (← c.self.view_is, c.in-One.is) (sym (length-first_bytes c.self.inside.words 23))

pub returns-in-Two-clause-value : goal.returns-in-Two-clause-value
returns-in-Two-clause-value c = rw (← c.self.view_is, c.in-Two.is) (sym (length-first_bytes c.self.inside.words 9))
