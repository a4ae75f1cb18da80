-- Trusted: which control of a report a setting means.
use Rattle.shapes.specs.Shapes.{UsageList}
use Rattle.std.specs.Prelude.{ℕ, zero, suc, ◌==◌, if◌then◌else◌, nat_lt, Bool, false, List, [], ◌∷◌, ◌++◌, flat_map, map, slice_get, find, Option, Some, None, is_some}
use Rattle.std.specs.List.{position}
use Rattle.descriptor_parse.specs.declared.field.Field.{Field}
use Rattle.descriptor_parse.specs.Descriptor.{DescriptorValue, ranges_at, usage_list, usage_of_place}
use Rattle.report_write.specs.declared.kept.Kept.{Kept}
use Rattle.report_write.specs.declared.control.Control.{Control}
use Rattle.report_write.specs.declared.control.Control.TheVariants.{Place, Usage}
use Rattle.report_write.specs.declared.setting.Target.{Target}
use Rattle.report_write.specs.declared.setting.Target.TheVariants as target

-- something is this usage
abbrev pub is_usage : ℕ → Option ℕ → Bool
is_usage usage None = false
is_usage usage (Some other) = other == usage

-- the first places of a Variable field that have a usage
unfoldable pub places_with : Field → UsageList → ℕ → ℕ → List ℕ
places_with field usages usage zero = []
places_with field usages usage (suc place) =
    places_with field usages usage place ++ (if is_usage usage (usage_of_place field usages place) then place ∷ [] else [])

-- the number of a usage in a list, the first where it is listed more than once
abbrev pub number_of : UsageList → ℕ → Option ℕ
number_of usages usage = position (λ other. other == usage) usages

-- what in a field has a usage: each place of a Variable field, and an Array whose list has it
abbrev pub controls_in : UsageList → ℕ → Kept → List Control
controls_in usages usage kept =
    if kept.field.array then (if is_some (number_of usages usage) then Usage kept usage ∷ [] else [])
    else map (λ place. Place kept place) (places_with kept.field usages usage kept.field.count)

-- what in a report has a usage, in order
unfoldable pub controls : DescriptorValue → ℕ → List Kept → List Control
controls d usage kept = flat_map (λ k. controls_in (usage_list (ranges_at d k.number)) usage k) kept

-- a place of a field
abbrev pub place_in : ℕ → Option Kept → Option Control
place_in place None = None
place_in place (Some kept) = if nat_lt place kept.field.count then Some (Place kept place) else None

-- the control that is meant, if the report has it: of those with a usage the one with this number, or a place of a field
unfoldable pub control_of : DescriptorValue → List Kept → Target → Option Control
control_of d kept (target.Usage usage place) = slice_get (controls d usage kept) place
control_of d kept (target.Field field place) = place_in place (find (λ k. k.number == field) kept)
