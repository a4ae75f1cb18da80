-- Trusted: which bytes settings are written onto, and why there are none.
use Rattle.shapes.specs.Shapes.{Bytes}
use Rattle.std.specs.Prelude.{◌≡◌, ℕ, zero, suc, ◌-◌, ◌*◌, ◌<◌, ◌==◌, if◌then◌else◌, nat_lt, not, ◌&&◌, Bool, true, false, List, [], ◌∷◌, length, replicate, slice_get, ℤ, Option, Some, None}
use Rattle.std.specs.Option.{is_none}
use Rattle.descriptor_parse.specs.Descriptor.{DescriptorValue, ranges_at, usage_list}
use Rattle.host_extract.specs.Found.{value_at, bytes_of}
use Rattle.host_extract.specs.Numbers.{report_bit}
use Rattle.field_values.specs.Places.{IsOutside}
use Rattle.field_values.specs.Nulls.{null_of}
use Rattle.report_write.specs.declared.kept.Kept.{Kept}
use Rattle.report_write.specs.declared.setting.WriteError.{WriteError}
use Rattle.report_write.specs.declared.setting.WriteError.TheVariants.{UnknownReport, OtherId, Short}
use Rattle.report_write.specs.Unused.{unused}

-- a report begins with another ID
abbrev pub has_other_id : ℕ → Bytes → Bool
has_other_id id [] = false
has_other_id id (first ∷ rest) = not (first == id)

-- why a report that is given is not written onto, if it is not
abbrev pub given_refusal : Bool → ℕ → ℕ → Option Bytes → Option WriteError
given_refusal uses_ids id len None = None
given_refusal uses_ids id len (Some given) =
    if uses_ids && has_other_id id given then Some OtherId else (if nat_lt (length given) len then Some Short else None)

-- why nothing is written whatever the settings are, if it is not: the first that holds
abbrev pub begin_refusal : DescriptorValue → ℕ → Option ℕ → Option Bytes → Option WriteError
begin_refusal d id None onto = Some UnknownReport
begin_refusal d id (Some len) onto = given_refusal d.uses_ids id len onto

-- The value of each place of a field in a new report, if it is not left 0: of an Array one that names no usage, with Null
-- State a null.
abbrev pub empty : DescriptorValue → Kept → Option ℤ
empty d kept =
    if kept.field.array then unused kept.field (usage_list (ranges_at d kept.number)) else (if kept.null_state then null_of kept.field else None)

-- an Array without a value that names no usage
abbrev pub cannot_be_empty : DescriptorValue → Kept → Bool
cannot_be_empty d kept = kept.field.array && is_none (unused kept.field (usage_list (ranges_at d kept.number)))

-- the places of a field hold a value, and each other bit is what it was
pub record IsFilledWith (kept : Kept) (value : ℤ) (old new : Bytes) : Type 0 where
  pub long : length new ≡ length old
  pub there : (place : ℕ) → place < kept.field.count → value_at kept.field new place ≡ value
  pub others : (bit : ℕ) → IsOutside kept.field.bit (kept.field.size * kept.field.count) bit → report_bit new bit ≡ report_bit old bit

abbrev pub IsFilledIf : Kept → Option ℤ → Bytes → Bytes → Type 0
IsFilledIf kept None old new = new ≡ old
IsFilledIf kept (Some value) old new = IsFilledWith kept value old new

-- bytes of 0 after the first fields of a report were filled, in order
pub data IsEmptyUpTo (d : DescriptorValue) (kept : List Kept) (zeros : Bytes) : ℕ → Bytes → Type 0 where
  Zeros : IsEmptyUpTo d kept zeros zero zeros
  Filled : (number : ℕ) (field : Kept) (old new : Bytes)
      → IsEmptyUpTo d kept zeros number old
      → slice_get kept number ≡ Some field
      → cannot_be_empty d field ≡ false
      → IsFilledIf field (empty d field) old new
      → IsEmptyUpTo d kept zeros (suc number) new

-- the first field that can't be empty
pub record IsNeverEmpty (d : DescriptorValue) (kept : List Kept) (field : ℕ) : Type 0 where
  pub place : ℕ
  pub array : Kept
  pub here : slice_get kept place ≡ Some array
  pub its : array.number ≡ field
  pub cannot : cannot_be_empty d array ≡ true
  pub first : (before : ℕ) (other : Kept) → before < place → slice_get kept before ≡ Some other → cannot_be_empty d other ≡ false

-- how many bytes a report has after its ID
abbrev pub without_id : DescriptorValue → ℕ → ℕ
without_id d len = if d.uses_ids then len - 1 else len

-- the bytes that settings are written onto, after the ID: those of the report that is given, or else a new report's
abbrev pub IsStart : DescriptorValue → List Kept → ℕ → Option Bytes → Bytes → Type 0
IsStart d kept len None start = IsEmptyUpTo d kept (replicate (without_id d len) 0) (length kept) start
IsStart d kept len (Some given) start = start ≡ bytes_of d given
