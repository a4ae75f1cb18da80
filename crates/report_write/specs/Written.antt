-- Trusted: a report that is written, and why none is.
use Rattle.shapes.specs.Shapes.{Bytes}
use Rattle.std.specs.Prelude.{◌≡◌, ℕ, if◌then◌else◌, Bool, List, ◌∷◌, length, replicate, Option, Some, None, ◌⊎◌}
use Rattle.descriptor_parse.specs.declared.field.Kind.{Kind}
use Rattle.descriptor_parse.specs.Descriptor.{DescriptorValue, report_len}
use Rattle.report_write.specs.declared.setting.Setting.{Setting}
use Rattle.report_write.specs.declared.setting.WriteError.{WriteError}
use Rattle.report_write.specs.declared.setting.WriteError.TheVariants.{NoUnused}
use Rattle.report_write.specs.Fields.{kept_fields}
use Rattle.report_write.specs.Settings.{IsAfter, IsRefused}
use Rattle.report_write.specs.Begins.{begin_refusal, IsStart, IsNeverEmpty}

-- the report whose bytes after the ID are these
abbrev pub with_id : DescriptorValue → ℕ → Bytes → Bytes
with_id d id bytes = if d.uses_ids then id ∷ bytes else bytes

-- Where nothing is refused, all settings are written one after the other onto the bytes at the start, and no place is set
-- before the first.
pub record IsWritten (d : DescriptorValue) (null_states : List Bool) (kind : Kind) (id : ℕ) (settings : List Setting)
    (onto : Option Bytes) (report : Bytes) : Type 0 where
  pub len : ℕ
  pub start : Bytes
  pub bytes : Bytes
  pub marks : Bytes
  pub known : report_len d kind id ≡ Some len
  pub begun : begin_refusal d id (Some len) onto ≡ None
  pub starts : IsStart d (kept_fields d null_states kind id) len onto start
  pub set : IsAfter d (kept_fields d null_states kind id) settings start (replicate (length start) 0) (length settings) bytes marks
  pub whole : report ≡ with_id d id bytes

-- the refusal of a setting, after a start
pub record IsSettingRefused (d : DescriptorValue) (null_states : List Bool) (kind : Kind) (id : ℕ) (settings : List Setting)
    (onto : Option Bytes) (e : WriteError) : Type 0 where
  pub len : ℕ
  pub start : Bytes
  pub known : report_len d kind id ≡ Some len
  pub begun : begin_refusal d id (Some len) onto ≡ None
  pub starts : IsStart d (kept_fields d null_states kind id) len onto start
  pub refused : IsRefused d (kept_fields d null_states kind id) settings start (replicate (length start) 0) e

-- an Array that can't be empty, in a new report
pub record IsUnusedRefused (d : DescriptorValue) (null_states : List Bool) (kind : Kind) (id : ℕ)
    (onto : Option Bytes) (e : WriteError) : Type 0 where
  pub len : ℕ
  pub field : ℕ
  pub known : report_len d kind id ≡ Some len
  pub new : onto ≡ None
  pub cannot : IsNeverEmpty d (kept_fields d null_states kind id) field
  pub as_write_error : e ≡ NoUnused field

-- The first reason that holds: no such report, or the one that is given is another or too short; an Array that can't be empty;
-- the first setting that is refused.
abbrev pub IsNotWritten : DescriptorValue → List Bool → Kind → ℕ → List Setting → Option Bytes → WriteError → Type 0
IsNotWritten d null_states kind id settings onto e =
    (begin_refusal d id (report_len d kind id) onto ≡ Some e)
    ⊎ (IsUnusedRefused d null_states kind id onto e ⊎ IsSettingRefused d null_states kind id settings onto e)
