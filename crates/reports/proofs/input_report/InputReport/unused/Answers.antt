use Rattle.reports.proofs.InWords.{unused_boot, unused_one, unused_two}
use Rattle.reports.proofs.input_report.InputReport.unused.Goals as goal

pub returns-in-Boot : goal.returns-in-Boot
returns-in-Boot c = rw c.in-Boot.is unused_boot

pub returns-in-One : goal.returns-in-One
returns-in-One c = rw c.in-One.is unused_one

pub returns-in-Two : goal.returns-in-Two
returns-in-Two c = rw c.in-Two.is unused_two
