use Rattle.host_extract.specs.Boot.{boot_descriptor_bytes}
use Rattle.host.proofs.BootLemmas.{boot_value, boot-describes, boot-short, boot-long}
use Rattle.host.proofs.gatherer.read_boot.Goals as goal

pub returns-then-report-lt-BOOT_LENGTH : goal.returns-then-report-lt-BOOT_LENGTH
returns-then-report-lt-BOOT_LENGTH c = (boot_value, boot-describes, boot-short boot_value c.args.report.now boot-describes c.if-report-lt-BOOT_LENGTH.true)

pub returns-in-Err : goal.returns-in-Err
returns-in-Err c = (boot_value, boot-describes, boot-long boot_value c.args.report.now boot-describes c.if-report-lt-BOOT_LENGTH.false)

pub returns-in-Ok : goal.returns-in-Ok
unfolding boot_descriptor_bytes
returns-in-Ok c = (c.in-Ok.descriptor, c.in-Ok.ensures.described, c.read_by.ensures)
