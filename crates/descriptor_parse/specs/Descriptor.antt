-- Trusted: the descriptor of a text, and what is looked up in it.
use Rattle.shapes.specs.Shapes.{UsageList}
use Rattle.std.specs.Prelude.{◌≡◌, ℕ, zero, suc, ◌+◌, ◌-◌, ◌/◌, ◌==◌, nat_lt, min, Bool, if◌then◌else◌, List, [], ◌∷◌, length, flat_map, slice_get, slice_index_or, Option, Some, None, option_and_then, unwrap_or}
use Rattle.descriptor_parse.specs.declared.field.Kind.{Kind}
use Rattle.descriptor_parse.specs.declared.field.Kind.TheVariants.{Input, Output, Feature}
use Rattle.descriptor_parse.specs.declared.field.Field.{Field}
use Rattle.descriptor_parse.specs.declared.totals.ReportBits.{ReportBits}
use Rattle.descriptor_parse.specs.Items.{ItemValue}
use Rattle.descriptor_parse.specs.Fields.{fields, field_usages, report_bits, has_report_id}

-- the bits of one ID's report of this kind
abbrev pub bits_on : Kind → ReportBits → ℕ
bits_on Input bits = bits.input
bits_on Output bits = bits.output
bits_on Feature bits = bits.feature

-- a report of each kind without a bit
abbrev pub no_bits : ReportBits
no_bits = record { input = 0; output = 0; feature = 0 }

-- A descriptor: its fields, the usages of each as first and last of ranges, whether report IDs are used, and the
-- bits of the reports by their IDs.
pub record DescriptorValue : Type 0 where
  pub fields : List Field
  pub ranges : List (List (ℕ × ℕ))
  pub uses_ids : Bool
  pub totals : List ReportBits

-- the bits of a report, 0 if there is none
abbrev pub bits_of : DescriptorValue → Kind → ℕ → ℕ
bits_of d kind id = bits_on kind (slice_index_or d.totals id no_bits)

-- a descriptor is that of these items, newest first
pub record Describes (items : List ItemValue) (d : DescriptorValue) : Type 0 where
  pub fields : d.fields ≡ fields items
  pub ranges : d.ranges ≡ field_usages items
  pub uses_ids : d.uses_ids ≡ has_report_id items
  pub bits : (kind : Kind) (id : ℕ) → bits_of d kind id ≡ report_bits kind id items

-- the bytes of a report that takes a bit: its ID byte, if IDs are used, and its bits rounded up
abbrev pub report_len : DescriptorValue → Kind → ℕ → Option ℕ
report_len d kind id =
    if bits_of d kind id == 0 then None else Some ((bits_of d kind id + 7) / 8 + (if d.uses_ids then 1 else 0))

-- the usages of a field, as first and last of ranges
abbrev pub ranges_at : DescriptorValue → ℕ → List (ℕ × ℕ)
ranges_at d field = unwrap_or (slice_get d.ranges field) []

-- the numbers from one on, so many
unfoldable pub count_up : ℕ → ℕ → List ℕ
count_up first zero = []
count_up first (suc n) = first ∷ count_up (first + 1) n

-- the usages of ranges one by one
unfoldable pub usage_list : List (ℕ × ℕ) → UsageList
usage_list ranges = flat_map (λ range. count_up range.0 (range.1 + 1 - range.0)) ranges

-- The usage of a place: for an array of that number in the list, for a variable field of the place, where the last
-- usage serves the rest.
abbrev pub usage_of_place : Field → UsageList → ℕ → Option ℕ
usage_of_place field usages place =
    if field.array then slice_get usages place
    else (if nat_lt place field.count then slice_get usages (min place (length usages - 1)) else None)

-- the usage of a place of a field, if it has one
abbrev pub usage_at : DescriptorValue → ℕ → ℕ → Option ℕ
usage_at d field place = option_and_then (λ f. usage_of_place f (usage_list (ranges_at d field)) place) (slice_get d.fields field)
