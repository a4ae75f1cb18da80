-- Fields whose bytes are asked for.
use Rattle.std.proofs.Common.{◌≡◌, ℕ, Bool, true, false, true≢false, List, [], ◌∷◌, length, refl, sym, ◌∙◌, ap, Some, None}
use Rattle.std.specs.Prelude.{Option, Result, Ok, Err, IfErr, if◌then◌else◌, nat_lt, slice_get}
use Rattle.descriptor_parse.specs.declared.field.Kind.{Kind}
use Rattle.descriptor_parse.specs.declared.field.Field.{Field}
use Rattle.descriptor_parse.specs.Descriptor.{DescriptorValue, report_len}
use Rattle.host_extract.specs.Found.{id_of}
use Rattle.report_read.specs.declared.error.ReadingError.{ReadingError}
use Rattle.report_read.specs.declared.error.ReadingError.TheVariants.{Short, NoSuchField, Memory}
use Rattle.report_read.specs.Items.{item_of, says_buffered}
use Rattle.report_read.specs.Values.{ReaderValue}
use Rattle.report_read.specs.Refusals.{refusal, refused_by_len}
use Rattle.report_read.specs.Buffered.{AreBytesOf, AreBytesIn, buffered_if, buffered_field, buffered_refusal}

pub field_found : (reader : ReaderValue) (kind : Kind) (report : List ℕ) (number id : ℕ) (found : Option Field) → id ≡ id_of reader.descriptor report
    → found ≡ buffered_if kind id (says_buffered (item_of reader.details.fields.items number)) (slice_get reader.descriptor.fields number)
    → buffered_field reader kind report number ≡ found
field_found reader kind report number id found i f = sym (f ∙ ap (λ n. buffered_if kind n (says_buffered (item_of reader.details.fields.items number)) (slice_get reader.descriptor.fields number)) i)

pub taken : (reader : ReaderValue) (kind : Kind) (report : List ℕ) (number : ℕ) (field : Field) → refusal reader.descriptor kind report ≡ None
    → buffered_field reader kind report number ≡ Some field → buffered_refusal reader kind report number ≡ None
unfolding buffered_refusal
taken reader kind report number field r f = rw (r, f) refl

pub no_field : (reader : ReaderValue) (kind : Kind) (report : List ℕ) (number : ℕ) → refusal reader.descriptor kind report ≡ None
    → buffered_field reader kind report number ≡ None → buffered_refusal reader kind report number ≡ Some NoSuchField
unfolding buffered_refusal
no_field reader kind report number r f = rw (r, f) refl

pub not_read : (reader : ReaderValue) (kind : Kind) (report : List ℕ) (number : ℕ) (e : ReadingError) → refusal reader.descriptor kind report ≡ Some e
    → buffered_refusal reader kind report number ≡ Some e
unfolding buffered_refusal
not_read reader kind report number e r = rw r refl

-- ---- no report is refused for memory

is_memory : Option ReadingError → Bool
is_memory (Some Memory) = true
is_memory o = false

short : (b : Bool) → is_memory (if b then Some Short else None) ≡ false
unfolding is_memory
short true = refl
short false = refl

by_len : (report : List ℕ) (len : Option ℕ) → is_memory (refused_by_len report len) ≡ false
unfolding is_memory
by_len report None = refl
by_len report (Some len) = short (nat_lt (length report) len)

of_report : (d : DescriptorValue) (kind : Kind) (report : List ℕ) → is_memory (refusal d kind report) ≡ false
unfolding refusal is_memory
of_report d kind [] = refl
of_report d kind (b ∷ bs) = by_len (b ∷ bs) (report_len d kind (id_of d (b ∷ bs)))

pub never_memory : (d : DescriptorValue) (kind : Kind) (report : List ℕ) (e : ReadingError) → refusal d kind report ≡ Some e → e ≡ Memory → ⊥
unfolding is_memory
never_memory d kind report e r m =
    let yes : is_memory (refusal d kind report) ≡ true = rw (r, m) refl in
    true≢false (sym yes ∙ of_report d kind report)

-- ---- what holds of each error, and of the bytes

pub each_error : {A E : Type 0} (result : Result A E) (m : E) (X : Type 0) → X → IfErr result (λ e. e ≡ m → X)
each_error (Ok x) m X holds = tt
each_error (Err e) m X holds = λ _. holds

pub bytes_in : (o : Option Field) (field : Field) (report given bytes : List ℕ) → o ≡ Some field → given ≡ report → AreBytesOf field given bytes → AreBytesIn o report bytes
bytes_in o field report given bytes e g are = rw (e, ← g) are
