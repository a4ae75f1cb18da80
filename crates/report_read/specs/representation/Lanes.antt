-- Representation: what is kept of a field.
use Rattle.shapes.specs.Shapes.{Bytes}
use Rattle.std.specs.Prelude.{◌≡◌, ℕ, ◌+◌, ◌%◌, ◌^◌, ◌<◌, ◌≤◌, Bool, true, false, List, [], ◌∷◌, flat_map, pos, int_lt}
use Rattle.descriptor_parse.specs.declared.field.Field.{Field}
use Rattle.descriptor_parse.specs.Descriptor.{DescriptorValue, ranges_at}
use Rattle.host_extract.specs.representation.Fits.{FitsReading}
use Rattle.report_read.specs.declared.value.Value.{Value}
use Rattle.report_read.specs.declared.lane.Form.{Form}
use Rattle.report_read.specs.declared.lane.Form.TheVariants.{Bit, Byte, Other}
use Rattle.report_read.specs.declared.lane.Way.{Way}
use Rattle.report_read.specs.declared.lane.Way.TheVariants.{Own, Named, Listed}
use Rattle.report_read.specs.declared.lane.Lane.{Lane}
use Rattle.report_read.specs.Values.{values_of_field}

-- values of a bit or of a whole byte, without a sign
abbrev pub IsForm : Field → Form → Type 0
IsForm field Bit = (field.size ≡ 1) × (int_lt field.min (pos 0) ≡ false)
IsForm field Byte = (field.size ≡ 8) × (field.bit % 8 ≡ 0) × (int_lt field.min (pos 0) ≡ false)
IsForm field Other = Unit

-- one range, of a field that is an Array or none
pub record IsOne (field : Field) (ranges : List (ℕ × ℕ)) (is_array : Bool) (first span : ℕ) : Type 0 where
  pub one : ranges ≡ (first, first + span) ∷ []
  pub array : field.array ≡ is_array
  pub fits : first + span < 2 ^ 32

abbrev pub IsWay : Field → List (ℕ × ℕ) → Way → ℕ → ℕ → Type 0
IsWay field ranges Own first span = IsOne field ranges false first span
IsWay field ranges Named first span = IsOne field ranges true first span
IsWay field ranges Listed first span = Unit

pub record IsLane (d : DescriptorValue) (lane : Lane) : Type 0 where
  pub form : IsForm lane.kept.field lane.form
  pub way : IsWay lane.kept.field (ranges_at d lane.kept.number) lane.way lane.first lane.span
  pub fits : FitsReading lane.kept.field
  pub some : 0 < lane.kept.field.count
  pub few : lane.kept.field.count ≤ 1024

-- the values of fields
unfoldable pub values_of_lanes : DescriptorValue → Bytes → List Lane → List Value
values_of_lanes d bytes lanes = flat_map (λ lane. values_of_field d bytes lane.kept) lanes

-- a place of the first field, or the first place where none is left
abbrev pub IsPlace : ℕ → List Lane → Type 0
IsPlace place [] = place ≡ 0
IsPlace place (lane ∷ lanes) = place < lane.kept.field.count
