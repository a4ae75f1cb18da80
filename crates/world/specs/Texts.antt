-- Trusted where this crate is called: which descriptor reads which report.
use Rattle.shapes.specs.Shapes.{Bytes}
use Rattle.std.specs.Prelude.{ℕ}
use Rattle.descriptor_build.specs.Served.{report_bytes}
use Rattle.host_extract.specs.Boot.{boot_descriptor_bytes}
use Rattle.reports.specs.declared.Input.{Input}
use Rattle.reports.specs.declared.Input.TheVariants.{Boot, One, Two}

-- the descriptor that an input report is read by
abbrev pub text_of : Input → Bytes
text_of Boot = boot_descriptor_bytes
text_of One = report_bytes
text_of Two = report_bytes
