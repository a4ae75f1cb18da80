-- Trusted: a usage that is put into an Array, or taken out of it (HID 1.11, 6.2.2.5).
use Rattle.shapes.specs.Shapes.{Bytes, UsageList}
use Rattle.std.specs.Prelude.{◌≡◌, ℕ, if◌then◌else◌, not, ◌&&◌, Bool, ℤ, pos, ◌+ℤ◌, int_lt, Option, Some, None, is_some}
use Rattle.std.specs.Ordering.{int_eq}
use Rattle.std.specs.Option.{option_or}
use Rattle.descriptor_parse.specs.declared.field.Field.{Field}
use Rattle.host_extract.specs.Found.{value_at}
use Rattle.field_values.specs.declared.null.Asked.{Asked}
use Rattle.field_values.specs.declared.null.Asked.TheVariants.{Value, Null}
use Rattle.field_values.specs.Held.{is_held}
use Rattle.field_values.specs.Lists.{is_no_control}
use Rattle.field_values.specs.Values.{usage_read}
use Rattle.report_write.specs.declared.setting.WriteError.{WriteError}
use Rattle.report_write.specs.declared.setting.WriteError.TheVariants.{Unknown, Twice, NoNull, TooLarge, OutOfRange, NoRoom}
use Rattle.report_write.specs.Firsts.{first}
use Rattle.report_write.specs.Controls.{is_usage, number_of}
use Rattle.report_write.specs.Unused.{unused}
use Rattle.report_write.specs.Puts.{IsPut, IsMarked, ArePut, is_set}

-- a place names a usage
abbrev pub names : Field → UsageList → Bytes → ℕ → ℕ → Bool
names field usages bytes usage place = is_usage usage (usage_read field usages place (value_at field bytes place))

-- a place names none, and no setting has set it
abbrev pub is_free : Field → UsageList → Bytes → Bytes → ℕ → Bool
is_free field usages bytes marks place =
    is_no_control (usage_read field usages place (value_at field bytes place)) && not (is_set field marks place)

-- where a usage is put: the first place that names it, or else the first that is free
abbrev pub place_for : Field → UsageList → Bytes → Bytes → ℕ → Option ℕ
place_for field usages bytes marks usage =
    option_or (first (names field usages bytes usage) field.count) (first (is_free field usages bytes marks) field.count)

-- why it is not put there, if it is not
abbrev pub taken_place : Field → Bytes → ℕ → Option ℕ → Option WriteError
taken_place field marks number None = Some (NoRoom number)
taken_place field marks number (Some place) = if is_set field marks place then Some (Twice number) else None

-- why a usage is not put in by the value that names it, if it is not: the first that holds
abbrev pub on_refusal : Field → UsageList → Bytes → Bytes → ℕ → ℕ → Option ℕ → Option WriteError
on_refusal field usages bytes marks usage number None = Some (Unknown number)
on_refusal field usages bytes marks usage number (Some listed) =
    if not (is_held field.min field.size (field.min +ℤ pos listed)) then Some (TooLarge number) else
    (if int_lt field.max (field.min +ℤ pos listed) then Some (OutOfRange number) else
    taken_place field marks number (place_for field usages bytes marks usage))

-- why a usage is not taken out, if it is not: no value says that there is none, or a place that names it is set already
abbrev pub off_refusal : Field → UsageList → Bytes → Bytes → ℕ → ℕ → Option ℤ → Option WriteError
off_refusal field usages bytes marks usage number None = Some (NoRoom number)
off_refusal field usages bytes marks usage number (Some value) =
    if is_some (first (λ place. names field usages bytes usage place && is_set field marks place) field.count) then Some (Twice number) else None

-- 1 puts a usage in, and 0 takes it out
abbrev pub usage_refusal : Field → UsageList → Bytes → Bytes → ℕ → ℕ → Asked → Option WriteError
usage_refusal field usages bytes marks usage number Null = Some (NoNull number)
usage_refusal field usages bytes marks usage number (Value value) =
    if int_eq value (pos 0) then off_refusal field usages bytes marks usage number (unused field usages) else
    (if int_eq value (pos 1) then on_refusal field usages bytes marks usage number (number_of usages usage) else Some (OutOfRange number))

-- a usage was put in
pub record IsOn (field : Field) (usages : UsageList) (usage : ℕ) (old new marks_old marks_new : Bytes) : Type 0 where
  pub place : ℕ
  pub listed : ℕ
  pub chosen : place_for field usages old marks_old usage ≡ Some place
  pub number : number_of usages usage ≡ Some listed
  pub put : IsPut field place (field.min +ℤ pos listed) old new
  pub marked : IsMarked field place marks_old marks_new

-- it was taken out: each place that named it says that there is none, and may be set again
pub record IsOff (field : Field) (usages : UsageList) (usage : ℕ) (old new marks_old marks_new : Bytes) : Type 0 where
  pub value : ℤ
  pub none : unused field usages ≡ Some value
  pub put : ArePut field (names field usages old usage) value old new
  pub marks : marks_new ≡ marks_old
