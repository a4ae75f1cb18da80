-- Trusted: settings that ask for what a report holds.
use Rattle.shapes.specs.Shapes.{Bytes, UsageList}
use Rattle.std.specs.Prelude.{◌≡◌, ℕ, List, slice_get, pos, ◌+ℤ◌, Some}
use Rattle.descriptor_parse.specs.declared.field.Field.{Field}
use Rattle.descriptor_parse.specs.Descriptor.{DescriptorValue, ranges_at, usage_list}
use Rattle.host_extract.specs.Found.{value_at}
use Rattle.field_values.specs.declared.null.Asked.{Asked}
use Rattle.field_values.specs.declared.null.Asked.TheVariants.{Value}
use Rattle.field_values.specs.Nulls.{asked_value}
use Rattle.report_write.specs.declared.kept.Kept.{Kept}
use Rattle.report_write.specs.declared.control.Control.{Control}
use Rattle.report_write.specs.declared.control.Control.TheVariants.{Place, Usage}
use Rattle.report_write.specs.declared.setting.Setting.{Setting}
use Rattle.report_write.specs.Firsts.{first}
use Rattle.report_write.specs.Controls.{number_of, control_of}
use Rattle.report_write.specs.Arrays.{names}

-- the first place of an Array that names a usage does so by the first number that the list has it with
pub record IsNamed (field : Field) (usages : UsageList) (usage : ℕ) (bytes : Bytes) : Type 0 where
  pub place : ℕ
  pub listed : ℕ
  pub named : first (names field usages bytes usage) field.count ≡ Some place
  pub number : number_of usages usage ≡ Some listed
  pub value : value_at field bytes place ≡ field.min +ℤ pos listed

-- what is asked of a control is what a report holds; of a usage of an Array, that it is in
abbrev pub IsHeldIn : DescriptorValue → Bytes → Asked → Control → Type 0
IsHeldIn d bytes asked (Place kept place) = asked_value kept.field asked ≡ Some (value_at kept.field bytes place)
IsHeldIn d bytes asked (Usage kept usage) = (asked ≡ Value (pos 1)) × IsNamed kept.field (usage_list (ranges_at d kept.number)) usage bytes

-- each setting asks for what a report holds
abbrev pub AreHeldIn : DescriptorValue → List Kept → List Setting → Bytes → Type 0
AreHeldIn d kept settings bytes =
    (number : ℕ) (setting : Setting) (control : Control) → slice_get settings number ≡ Some setting
    → control_of d kept setting.target ≡ Some control → IsHeldIn d bytes setting.asked control
