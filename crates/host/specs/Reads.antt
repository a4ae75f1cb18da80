-- Trusted: what a host reads in an input report.
use Rattle.shapes.specs.Shapes.{Bytes}
use Rattle.std.specs.Prelude.{◌≡◌, ℕ, List, Option, Some, None, IsSome}
use Rattle.descriptor_parse.specs.Descriptor.{DescriptorValue, Describes}
use Rattle.descriptor_parse.specs.Faults.{all_items}
use Rattle.reports.specs.declared.Protocol.{Protocol}
use Rattle.reports.specs.declared.Protocol.TheVariants.{Boot, Report}
use Rattle.host_extract.specs.Boot.{boot_descriptor_bytes}
use Rattle.host_extract.specs.Found.{found}
use Rattle.host_extract.specs.Pressed.{ArePressed}
use Rattle.host_extract.specs.Refusals.{refusal}
use Rattle.host.specs.Calls.{HostCall}
use Rattle.host.specs.Kept.{kept}
use Rattle.host.specs.declared.reading.Reading.{Reading}
use Rattle.host.specs.declared.reading.Reading.TheVariants.{Unread, NoMemory, Usages}

-- the descriptor by which reports of a protocol are read: the host's own, or the one that was gathered
abbrev pub text_by : Protocol → List HostCall → Option Bytes
text_by Boot past = Some boot_descriptor_bytes
text_by Report past = kept past

-- A report that `extract` refuses is not read; otherwise the usages that are on are read, or memory was refused.
abbrev pub ReadsWith : DescriptorValue → Bytes → Reading → Type 0
ReadsWith d report Unread = IsSome (refusal d report)
ReadsWith d report NoMemory = refusal d report ≡ None
ReadsWith d report (Usages usages) = (refusal d report ≡ None) × ArePressed (found d report) usages

-- Without a descriptor no report is read.
abbrev pub Reads : Option Bytes → Bytes → Reading → Type 0
Reads None report reading = reading ≡ Unread
Reads (Some text) report reading = (d : DescriptorValue) × Describes (all_items text) d × ReadsWith d report reading
