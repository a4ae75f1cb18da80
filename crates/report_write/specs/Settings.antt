-- Trusted: what settings do to a report, one after the other, and which of them is the first that is refused.
use Rattle.shapes.specs.Shapes.{Bytes, UsageList}
use Rattle.std.specs.Prelude.{◌≡◌, ℕ, zero, suc, if◌then◌else◌, Bool, true, false, List, slice_get, ℤ, pos, Option, Some, None}
use Rattle.std.specs.Option.{option_map}
use Rattle.std.specs.Ordering.{int_eq}
use Rattle.descriptor_parse.specs.declared.field.Field.{Field}
use Rattle.descriptor_parse.specs.Descriptor.{DescriptorValue, ranges_at, usage_list}
use Rattle.field_values.specs.declared.null.Asked.{Asked}
use Rattle.field_values.specs.declared.null.Asked.TheVariants.{Value, Null}
use Rattle.field_values.specs.declared.place.PlaceError.{PlaceError}
use Rattle.field_values.specs.declared.place.PlaceError.TheVariants as place_error
use Rattle.field_values.specs.Nulls.{asked_refusal, asked_value}
use Rattle.report_write.specs.declared.kept.Kept.{Kept}
use Rattle.report_write.specs.declared.control.Control.{Control}
use Rattle.report_write.specs.declared.control.Control.TheVariants.{Place, Usage}
use Rattle.report_write.specs.declared.setting.Setting.{Setting}
use Rattle.report_write.specs.declared.setting.WriteError.{WriteError}
use Rattle.report_write.specs.declared.setting.WriteError.TheVariants as error
use Rattle.report_write.specs.Controls.{control_of}
use Rattle.report_write.specs.Puts.{IsPut, IsMarked, is_set}
use Rattle.report_write.specs.Arrays.{usage_refusal, IsOn, IsOff}

-- a refusal of a place, told of the setting with a number
abbrev pub as_write_error : ℕ → PlaceError → WriteError
as_write_error number place_error.NoPlace = error.Unknown number
as_write_error number place_error.Short = error.Short
as_write_error number place_error.NoNull = error.NoNull number
as_write_error number place_error.TooLarge = error.TooLarge number
as_write_error number place_error.OutOfRange = error.OutOfRange number

-- why a place is not set, if it is not: first because it is set already
abbrev pub place_refusal : Kept → ℕ → Bytes → Bytes → ℕ → Asked → Option WriteError
place_refusal kept place bytes marks number asked =
    if is_set kept.field marks place then Some (error.Twice number) else option_map (as_write_error number) (asked_refusal kept.field kept.null_state bytes place asked)

-- why a control is not set, if it is not
abbrev pub control_refusal : DescriptorValue → Bytes → Bytes → ℕ → Asked → Option Control → Option WriteError
control_refusal d bytes marks number asked None = Some (error.Unknown number)
control_refusal d bytes marks number asked (Some (Place kept place)) = place_refusal kept place bytes marks number asked
control_refusal d bytes marks number asked (Some (Usage kept usage)) =
    usage_refusal kept.field (usage_list (ranges_at d kept.number)) bytes marks usage number asked

-- why a setting is refused, if it is
unfoldable pub refusal_at : DescriptorValue → List Kept → Bytes → Bytes → ℕ → Setting → Option WriteError
refusal_at d kept bytes marks number setting = control_refusal d bytes marks number setting.asked (control_of d kept setting.target)

-- a place holds what is asked for, and is set
pub record IsPlaceSet (kept : Kept) (place : ℕ) (asked : Asked) (old new marks_old marks_new : Bytes) : Type 0 where
  pub value : ℤ
  pub asked_for : asked_value kept.field asked ≡ Some value
  pub put : IsPut kept.field place value old new
  pub marked : IsMarked kept.field place marks_old marks_new

-- a usage is taken out of an Array, where it is set to 0, or else put in: no other value than 1 is taken
abbrev pub IsSwitched : Bool → Field → UsageList → ℕ → Bytes → Bytes → Bytes → Bytes → Type 0
IsSwitched true field usages usage old new marks_old marks_new = IsOff field usages usage old new marks_old marks_new
IsSwitched false field usages usage old new marks_old marks_new = IsOn field usages usage old new marks_old marks_new

-- a usage of an Array is set: 0 takes it out
abbrev pub IsUsageSet : DescriptorValue → Kept → ℕ → Asked → Bytes → Bytes → Bytes → Bytes → Type 0
IsUsageSet d kept usage Null old new marks_old marks_new = ⊥
IsUsageSet d kept usage (Value value) old new marks_old marks_new =
    IsSwitched (int_eq value (pos 0)) kept.field (usage_list (ranges_at d kept.number)) usage old new marks_old marks_new

abbrev pub IsControlSet : DescriptorValue → Option Control → Asked → Bytes → Bytes → Bytes → Bytes → Type 0
IsControlSet d None asked old new marks_old marks_new = ⊥
IsControlSet d (Some (Place kept place)) asked old new marks_old marks_new = IsPlaceSet kept place asked old new marks_old marks_new
IsControlSet d (Some (Usage kept usage)) asked old new marks_old marks_new = IsUsageSet d kept usage asked old new marks_old marks_new

-- what a setting does
unfoldable pub IsSet : DescriptorValue → List Kept → Setting → Bytes → Bytes → Bytes → Bytes → Type 0
IsSet d kept setting old new marks_old marks_new = IsControlSet d (control_of d kept setting.target) setting.asked old new marks_old marks_new

-- the bytes of a report and its marks after the first settings
pub data IsAfter (d : DescriptorValue) (kept : List Kept) (settings : List Setting) (start no_marks : Bytes) : ℕ → Bytes → Bytes → Type 0 where
  Begun : IsAfter d kept settings start no_marks zero start no_marks
  Next : (number : ℕ) (setting : Setting) (old new marks_old marks_new : Bytes)
      → IsAfter d kept settings start no_marks number old marks_old
      → slice_get settings number ≡ Some setting
      → refusal_at d kept old marks_old number setting ≡ None
      → IsSet d kept setting old new marks_old marks_new
      → IsAfter d kept settings start no_marks (suc number) new marks_new

-- the first setting that is refused, by what those before it left
pub record IsRefused (d : DescriptorValue) (kept : List Kept) (settings : List Setting) (start no_marks : Bytes) (e : WriteError) : Type 0 where
  pub number : ℕ
  pub setting : Setting
  pub bytes : Bytes
  pub marks : Bytes
  pub before : IsAfter d kept settings start no_marks number bytes marks
  pub here : slice_get settings number ≡ Some setting
  pub refused : refusal_at d kept bytes marks number setting ≡ Some e
