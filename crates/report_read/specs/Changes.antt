-- Trusted: the usages that are on in a report, and those in which two reports differ.
use Rattle.shapes.specs.Shapes.{Bytes, UsageList}
use Rattle.std.specs.Prelude.{ℕ, ◌%◌, ◌^◌, ◌==◌, ◌&&◌, ◌||◌, ◌↔◌, not, if◌then◌else◌, Bool, true, false, List, [], ◌∷◌, flat_map, slice_get, Contains, pos, Option, Some, None, unwrap_or}
use Rattle.std.specs.Option.{option_map, option_or}
use Rattle.std.specs.Ordering.{int_eq}
use Rattle.std.specs.List.Sorted.{IsStrictlyIncreasing}
use Rattle.descriptor_parse.specs.declared.field.Kind.{Kind}
use Rattle.descriptor_parse.specs.Descriptor.{DescriptorValue}
use Rattle.field_values.specs.declared.value.Within.{Within}
use Rattle.field_values.specs.declared.value.Within.TheVariants.{Range, Null, Out}
use Rattle.host_extract.specs.Found.{id_of}
use Rattle.report_read.specs.declared.value.Value.{Value}
use Rattle.report_read.specs.declared.error.ReadingError.{ReadingError}
use Rattle.report_read.specs.declared.error.ReadingError.TheVariants.{OtherId}
use Rattle.report_read.specs.Refusals.{refusal}
use Rattle.report_read.specs.Values.{ReaderValue, reading}

-- a usage, if it is that of a control: its low half is not 0
abbrev pub control : Option ℕ → UsageList
control None = []
control (Some usage) = if usage % 2 ^ 16 == 0 then [] else usage ∷ []

-- the field of a value is an Array
abbrev pub is_of_array : DescriptorValue → Value → Bool
is_of_array d value = unwrap_or (option_map (λ field. field.array) (slice_get d.fields value.field)) false

-- A value counts within the logical extents alone: a null, and one that is out of range, is none of its control (HID 1.11, 5.10).
abbrev pub counts : Within → Bool
counts Range = true
counts Null = false
counts Out = false

-- the usage that a value says is on: one that an Array names, or one of a Variable field whose value is not 0
abbrev pub on_by : DescriptorValue → Value → UsageList
on_by d value =
    if counts value.within && (is_of_array d value || not (int_eq value.raw (pos 0))) then control value.usage else []

-- those of values, in their order
unfoldable pub on_by_all : DescriptorValue → List Value → UsageList
on_by_all d values = flat_map (on_by d) values

-- those of a report
abbrev pub on_in : ReaderValue → Kind → Bytes → UsageList
on_in reader kind report = on_by_all reader.descriptor (reading reader kind report).left

-- the same usages, rising, each once
pub record AreRising (all usages : UsageList) : Type 0 where
  pub rising : IsStrictlyIncreasing usages
  pub members : (usage : ℕ) → Contains usages usage ↔ Contains all usage

-- the usages that only the first of two lists has, rising, each once
pub record AreOnlyIn (these those usages : UsageList) : Type 0 where
  pub rising : IsStrictlyIncreasing usages
  pub members : (usage : ℕ) → Contains usages usage ↔ (Contains these usage × (Contains those usage → ⊥))

-- why two reports are not compared, if they are not: the first that holds
abbrev pub changes_refusal : DescriptorValue → Kind → Bytes → Bytes → Option ReadingError
changes_refusal d kind before now =
    option_or (refusal d kind before) (option_or (refusal d kind now) (if id_of d before == id_of d now then None else Some OtherId))
