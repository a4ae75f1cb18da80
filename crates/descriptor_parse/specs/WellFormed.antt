-- Trusted: what holds of every descriptor.
use Rattle.std.specs.Prelude.{◌≡◌, ℕ, ◌+◌, ◌*◌, ◌/◌, ◌^◌, ◌<◌, ◌≤◌, ◌↔◌, false, List, length, All, pos, neg_ℤ, ◌≤ℤ◌, ◌<ℤ◌}
use Rattle.descriptor_parse.specs.declared.field.Kind.{Kind}
use Rattle.descriptor_parse.specs.declared.field.Field.{Field}
use Rattle.descriptor_parse.specs.Descriptor.{DescriptorValue, bits_of}

-- A field is within the limits, its bits are within its report, its extents are numbers of 32 bits, and its ID is 0
-- exactly where none is used.
pub record FitsField (d : DescriptorValue) (field : Field) : Type 0 where
  pub size_some : 0 < field.size
  pub size : field.size ≤ 32
  pub count_some : 0 < field.count
  pub count : field.count ≤ 1024
  pub bits : field.bit + field.size * field.count ≤ bits_of d field.kind field.id
  pub min_from : neg_ℤ (pos (2 ^ 31)) ≤ℤ field.min
  pub min_to : field.min <ℤ pos (2 ^ 31)
  pub max_from : neg_ℤ (pos (2 ^ 31)) ≤ℤ field.max
  pub max_to : field.max <ℤ pos (2 ^ 32)
  pub id : (field.id ≡ 0) ↔ (d.uses_ids ≡ false)

-- a range of usages, its first and its last, is in order, and of one page
pub record IsRange (range : ℕ × ℕ) : Type 0 where
  pub order : range.0 ≤ range.1
  pub last : range.1 < 2 ^ 32
  pub page : range.0 / 2 ^ 16 ≡ range.1 / 2 ^ 16

-- a field has at most as many ranges as a text has bytes
abbrev pub AreFew : List (ℕ × ℕ) → Type 0
AreFew ranges = length ranges ≤ 4096

-- the numbers of fields, of their ranges and of the bits of reports are within the limits, and each field and range is as
-- said
pub record IsWellFormed (d : DescriptorValue) : Type 0 where
  pub few : length d.fields ≤ 256
  pub as_many : length d.ranges ≡ length d.fields
  pub fields : All (FitsField d) d.fields
  pub ranges : All (All IsRange) d.ranges
  pub few_ranges : All AreFew d.ranges
  pub bits_few : (kind : Kind) (id : ℕ) → bits_of d kind id ≤ 2 ^ 32
