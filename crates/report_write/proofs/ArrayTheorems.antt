-- What holds of usages of Arrays in a report that is written.
use Rattle.std.proofs.Common.{◌≡◌, ◌≢◌, ℕ, ◌+◌, ◌%◌, ◌^◌, ◌<◌, Bool, true, List, length, refl, ◌∙◌, ap, Some}
use Rattle.std.specs.Prelude.{Option, pos, if◌then◌else◌, slice_get}
use Rattle.std.proofs.lemmas.Option.{slice_get_within}
use Rattle.descriptor_parse.specs.declared.field.Kind.{Kind}
use Rattle.descriptor_parse.specs.declared.field.Field.{Field}
use Rattle.descriptor_parse.specs.Descriptor.{DescriptorValue, ranges_at, usage_list}
use Rattle.host_extract.specs.Found.{value_at, bytes_of, named, reading_at}
use Rattle.field_values.specs.declared.null.Asked.TheVariants.{Value}
use Rattle.field_values.specs.Values.{usage_read}
use Rattle.field_values.proofs.Reading.{extracted}
use Rattle.report_write.specs.declared.kept.Kept.{Kept}
use Rattle.report_write.specs.declared.control.Control.TheVariants.{Usage}
use Rattle.report_write.specs.declared.setting.Setting.{Setting}
use Rattle.report_write.specs.Controls.{control_of, is_usage}
use Rattle.report_write.specs.Fields.{kept_fields}
use Rattle.report_write.specs.Untouched.{IsLeftFrom}
use Rattle.report_write.specs.Written.{IsWritten}
use Rattle.report_write.proofs.Untouched.{either_below}
use Rattle.report_write.proofs.TheoremsHold.{bytes_are}
use Rattle.report_write.proofs.ArraysFound.{is_array, was_set, left_value, asked_set, asked_taken, named_on}
use Rattle.report_write.proofs.ArraysGone.{no_longer_named, never_read}

read_in_array : (f : Field) (usages bytes : List ℕ) (place usage : ℕ) → f.array ≡ true → usage_read f usages place (value_at f bytes place) ≡ Some usage
    → reading_at f usages bytes place ≡ named (Some usage) (pos 1)
read_in_array f usages bytes place usage array read =
    let one : (if f.array then pos 1 else value_at f bytes place) ≡ pos 1 = rw array refl in
    extracted f usages bytes place
    ∙ ap (λ o. named o (if f.array then pos 1 else value_at f bytes place)) read
    ∙ ap (named (Some usage)) one

pub put_in_is_found : (d : DescriptorValue) (null_states : List Bool) (kind : Kind) (id : ℕ) (settings : List Setting) (onto : Option (List ℕ)) (report : List ℕ)
    (number : ℕ) (setting : Setting) (kept : Kept) (usage : ℕ)
    → IsWritten d null_states kind id settings onto report
    → slice_get settings number ≡ Some setting
    → control_of d (kept_fields d null_states kind id) setting.target ≡ Some (Usage kept usage)
    → setting.asked ≡ Value (pos 1)
    → IsLeftFrom d (kept_fields d null_states kind id) settings (number + 1) kept
    → (place : ℕ) × (place < kept.field.count)
    × (usage_read kept.field (usage_list (ranges_at d kept.number)) place (value_at kept.field (bytes_of d report) place) ≡ Some usage)
    × (reading_at kept.field (usage_list (ranges_at d kept.number)) (bytes_of d report) place ≡ named (Some usage) (pos 1))
put_in_is_found d null_states kind id settings onto report number setting kept usage w at is one left =
    let all = kept_fields d null_states kind id in
    let usages = usage_list (ranges_at d kept.number) in
    let was = was_set d all settings w.start _ number setting at (length settings) w.bytes w.marks w.set (slice_get_within settings number setting at) in
    let array = is_array d all setting.target kept usage is in
    let on = asked_set d all setting (Value (pos 1)) was.old was.new was.marks_old was.marks_new kept usage is one was.set in
    let taken = asked_taken d all setting (Value (pos 1)) was.old was.marks_old number kept usage is one was.taken in
    let below : on.place < kept.field.count = either_below _ _ kept.field.count on.place on.chosen in
    let holds : value_at kept.field (bytes_of d report) on.place ≡ value_at kept.field was.new on.place =
    ap (λ bytes. value_at kept.field bytes on.place) (bytes_are d null_states kind id settings onto report w)
    ∙ left_value d all settings (number + 1) kept was.new w.bytes on.place was.later left below in
    let read : usage_read kept.field usages on.place (value_at kept.field (bytes_of d report) on.place) ≡ Some usage =
    ap (usage_read kept.field usages on.place) holds ∙ named_on kept.field usages usage number was.old was.new was.marks_old was.marks_new array on taken in
    (on.place, below, read, read_in_array kept.field usages (bytes_of d report) on.place usage array read)

pub taken_out_is_gone : (d : DescriptorValue) (null_states : List Bool) (kind : Kind) (id : ℕ) (settings : List Setting) (onto : Option (List ℕ)) (report : List ℕ)
    (number : ℕ) (setting : Setting) (kept : Kept) (usage place : ℕ)
    → IsWritten d null_states kind id settings onto report
    → slice_get settings number ≡ Some setting
    → control_of d (kept_fields d null_states kind id) setting.target ≡ Some (Usage kept usage)
    → setting.asked ≡ Value (pos 0) → usage % 2 ^ 16 ≢ 0
    → IsLeftFrom d (kept_fields d null_states kind id) settings (number + 1) kept
    → place < kept.field.count
    → usage_read kept.field (usage_list (ranges_at d kept.number)) place (value_at kept.field (bytes_of d report) place) ≢ Some usage
taken_out_is_gone d null_states kind id settings onto report number setting kept usage place w at is zero some left below =
    let all = kept_fields d null_states kind id in
    let usages = usage_list (ranges_at d kept.number) in
    let was = was_set d all settings w.start _ number setting at (length settings) w.bytes w.marks w.set (slice_get_within settings number setting at) in
    let array = is_array d all setting.target kept usage is in
    let off = asked_set d all setting (Value (pos 0)) was.old was.new was.marks_old was.marks_new kept usage is zero was.set in
    let gone = no_longer_named kept.field usages usage place was.old was.new was.marks_old was.marks_new array some off below in
    let holds : value_at kept.field (bytes_of d report) place ≡ value_at kept.field was.new place =
    ap (λ bytes. value_at kept.field bytes place) (bytes_are d null_states kind id settings onto report w)
    ∙ left_value d all settings (number + 1) kept was.new w.bytes place was.later left below in
    never_read (usage_read kept.field usages place (value_at kept.field (bytes_of d report) place)) usage
    (ap (λ v. is_usage usage (usage_read kept.field usages place v)) holds ∙ gone)
