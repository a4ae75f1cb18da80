-- Trusted: the bits that settings leave as they were.
use Rattle.std.specs.Prelude.{◌≡◌, ℕ, ◌+◌, ◌*◌, ◌<◌, ◌≤◌, List, slice_get, Some}
use Rattle.descriptor_parse.specs.Descriptor.{DescriptorValue}
use Rattle.field_values.specs.Held.{place_bit}
use Rattle.field_values.specs.Places.{IsOutside}
use Rattle.report_write.specs.declared.kept.Kept.{Kept}
use Rattle.report_write.specs.declared.control.Control.{Control}
use Rattle.report_write.specs.declared.control.Control.TheVariants.{Place, Usage}
use Rattle.report_write.specs.declared.setting.Setting.{Setting}
use Rattle.report_write.specs.Controls.{control_of}

-- a bit is none of a control; those of a usage of an Array are all of its field
abbrev pub IsOutsideControl : Control → ℕ → Type 0
IsOutsideControl (Place kept place) bit = IsOutside (place_bit kept.field place) kept.field.size bit
IsOutsideControl (Usage kept usage) bit = IsOutside kept.field.bit (kept.field.size * kept.field.count) bit

-- a bit is of no control that the settings from one on mean
abbrev pub IsOutsideFrom : DescriptorValue → List Kept → List Setting → ℕ → ℕ → Type 0
IsOutsideFrom d kept settings from bit =
    (number : ℕ) (setting : Setting) (control : Control) → from ≤ number → slice_get settings number ≡ Some setting
    → control_of d kept setting.target ≡ Some control → IsOutsideControl control bit

-- the bits of a field are of no control that the settings from one on mean
abbrev pub IsLeftFrom : DescriptorValue → List Kept → List Setting → ℕ → Kept → Type 0
IsLeftFrom d kept settings from one =
    (i : ℕ) → i < one.field.size * one.field.count → IsOutsideFrom d kept settings from (one.field.bit + i)
