-- Representation: what holds of each field of a report, and of its usages.
use Rattle.std.specs.Prelude.{◌≡◌, ℕ, ◌+◌, ◌*◌, ◌^◌, ◌<◌, ◌≤◌, unsigned_abs, true, List, All}
use Rattle.descriptor_parse.specs.declared.field.Field.{Field}
use Rattle.descriptor_parse.specs.Descriptor.{DescriptorValue, ranges_at}
use Rattle.descriptor_parse.specs.WellFormed.{IsRange}
use Rattle.host_extract.specs.representation.Fits.{FitsReading}
use Rattle.report_write.specs.declared.kept.Kept.{Kept}
use Rattle.report_write.specs.declared.control.Control.{Control}
use Rattle.report_write.specs.declared.control.Control.TheVariants.{Place, Usage}

-- logical extents are of 32 bits, signed or not
pub record FitsLimits (field : Field) : Type 0 where
  pub min : unsigned_abs field.min ≤ 2 ^ 32
  pub max : unsigned_abs field.max ≤ 2 ^ 32

-- a field with its usages, within so many bits
pub record FitsRoom (room : ℕ) (field : Field) (ranges : List (ℕ × ℕ)) : Type 0 where
  pub reading : FitsReading field
  pub limits : FitsLimits field
  pub size_some : 0 < field.size
  pub count_some : 0 < field.count
  pub few : field.count ≤ 1024
  pub end : field.bit + field.size * field.count ≤ room
  pub in_order : All IsRange ranges

-- a field of a report
pub record FitsKept (d : DescriptorValue) (room : ℕ) (kept : Kept) : Type 0 where
  pub fits : FitsRoom room kept.field (ranges_at d kept.number)

-- a control of a report
abbrev pub FitsControl : DescriptorValue → ℕ → Control → Type 0
FitsControl d room (Place kept place) = FitsKept d room kept × (place < kept.field.count)
FitsControl d room (Usage kept usage) = FitsKept d room kept × (kept.field.array ≡ true)
