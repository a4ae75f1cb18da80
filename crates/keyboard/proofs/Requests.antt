-- What a request that is served asks for, by its fields alone.
use Rattle.std.proofs.Common.{arith, ◌≡◌, ℕ, ◌/◌, ◌%◌, ◌==◌, ◌&&◌, not, Bool, true, false, if◌then◌else◌, Option, Some, None, Result, Ok, Err, List, [], ◌∷◌, refl, ap, sym, ◌∙◌, inl, inr}
use Rattle.std.proofs.lemmas.Bool.{cases_eq}
use Rattle.std.proofs.lemmas.Bool.Decides.{nat_tests}
use Rattle.reports.specs.declared.Protocol.{Protocol}
use Rattle.reports.specs.declared.Protocol.TheVariants.{Boot, Report}
use Rattle.control_ep.specs.declared.why.Why.{Why}
use Rattle.control_ep.specs.declared.why.Why.TheVariants.{UnknownReport, UnknownDescriptor, BadProtocol, WrongLength, WrongInterface, UnknownRequest}
use Rattle.control_ep.specs.declared.answer.Effect.{Effect}
use Rattle.control_ep.specs.declared.answer.Effect.TheVariants.{Nothing}
use Rattle.control_ep.specs.declared.answer.DeviceView.{DeviceView}
use Rattle.control_ep.specs.Transfers.{SetupFields, HostReport, LedsWithId, LedsAlone, FeatureData, Transfer, Reads, Takes}
use Rattle.control_ep.specs.Requests.{named, idle_effects, protocol_effects, reports_taken, device_descriptors, interface_descriptors, reports_read, idle_values, protocol_byte, requests, asked_at, takes_length, with_length, checked, transfer_of}
use Rattle.keyboard.specs.Effects.{report_of_value, report_of_request, effect_set, effect_of_request}

-- the report that a transfer takes, and its effect
abbrev pub report_in : Transfer → Option HostReport
report_in (Takes report) = Some report
report_in _ = None

abbrev pub effect_in : Transfer → Effect
effect_in transfer = effect_set (Ok transfer)

-- each transfer of a table takes no report
abbrev TakeNone : List (ℕ × Transfer) → Type 0
TakeNone [] = Unit {0}
TakeNone (row ∷ rows) = (report_in row.1 ≡ None) × TakeNone rows

abbrev SetNone : List (ℕ × Transfer) → Type 0
SetNone [] = Unit {0}
SetNone (row ∷ rows) = (effect_in row.1 ≡ Nothing) × SetNone rows

-- the same, with their types
abbrev ok_of : Transfer → Result Transfer Why
ok_of transfer = Ok transfer

abbrev err_of : Why → Result Transfer Why
err_of why = Err why

same_ok : (a b : Transfer) → ok_of a ≡ ok_of b → a ≡ b
same_ok a b e = cc

not_ok : (why : Why) (b : Transfer) → err_of why ≡ ok_of b → ⊥
not_ok why b e = cc

none_by : (b : Bool) (first : Transfer) (rest : Result Transfer Why) (transfer : Transfer) → report_in first ≡ None → (rest ≡ ok_of transfer → report_in transfer ≡ None)
    → (if b then ok_of first else rest) ≡ ok_of transfer → report_in transfer ≡ None
none_by true first rest transfer h k e = rw (← same_ok first transfer e) h
none_by false first rest transfer h k e = k e

named_none : (why : Why) (rows : List (ℕ × Transfer)) (number : ℕ) (transfer : Transfer) → TakeNone rows → named why rows number ≡ ok_of transfer → report_in transfer ≡ None
named_none why [] number transfer h e = absurd (not_ok why transfer e)
named_none why (row ∷ rows) number transfer h e =
    none_by (number == row.0) row.1 (named why rows number) transfer h.0 (λ f. named_none why rows number transfer h.1 f) e

nothing_by : (b : Bool) (first : Transfer) (rest : Result Transfer Why) (transfer : Transfer) → effect_in first ≡ Nothing → (rest ≡ ok_of transfer → effect_in transfer ≡ Nothing)
    → (if b then ok_of first else rest) ≡ ok_of transfer → effect_in transfer ≡ Nothing
nothing_by true first rest transfer h k e = rw (← same_ok first transfer e) h
nothing_by false first rest transfer h k e = k e

named_nothing : (why : Why) (rows : List (ℕ × Transfer)) (number : ℕ) (transfer : Transfer) → SetNone rows → named why rows number ≡ ok_of transfer → effect_in transfer ≡ Nothing
named_nothing why [] number transfer h e = absurd (not_ok why transfer e)
named_nothing why (row ∷ rows) number transfer h e =
    nothing_by (number == row.0) row.1 (named why rows number) transfer h.0 (λ f. named_nothing why rows number transfer h.1 f) e

-- what the request of these codes asks for, by wValue
abbrev report_for : ℕ → ℕ → ℕ → Option HostReport
report_for kind code value = if (kind == 0x21) && (code == 0x09) then report_of_value value else None

abbrev effect_for : ℕ → ℕ → ℕ → Effect
effect_for kind code value =
    if (kind == 0x21) && (code == 0x0A)
    then effect_set (named UnknownReport (idle_effects (value / 256)) (value % 256))
    else (if (kind == 0x21) && (code == 0x0B) then effect_set (named BadProtocol protocol_effects value)
    else Nothing)

-- a transfer is what the codes and wValue say
pub record IsNamed (kind code value : ℕ) (transfer : Transfer) : Type 0 where
  pub report : report_for kind code value ≡ report_in transfer
  pub effect : effect_for kind code value ≡ effect_in transfer

abbrev NamesIn : ℕ → List (ℕ × ℕ × Result Transfer Why) → Type 0
NamesIn value [] = Unit {0}
NamesIn value (row ∷ rows) = ((transfer : Transfer) → row.2 ≡ Ok transfer → IsNamed row.0 row.1 value transfer) × NamesIn value rows

same_some : (a b : Result Transfer Why) → Some a ≡ Some b → a ≡ b
same_some a b e = cc

asked_by : (b : Bool) (value kind code k c : ℕ) (first : Result Transfer Why) (rest : Option (Result Transfer Why)) (transfer : Transfer) → ((kind == k) && (code == c)) ≡ b
    → ((t : Transfer) → first ≡ Ok t → IsNamed k c value t) → (rest ≡ Some (ok_of transfer) → IsNamed kind code value transfer)
    → (if b then Some first else rest) ≡ Some (ok_of transfer) → IsNamed kind code value transfer
asked_by true value kind code k c first rest transfer t h g e =
    let is : first ≡ ok_of transfer = same_some first (ok_of transfer) e in
    let k_is : kind ≡ k = grind (arith, t, nat_tests) in
    let c_is : code ≡ c = grind (arith, t, nat_tests) in
    rw (k_is, c_is) (h transfer is)
asked_by false value kind code k c first rest transfer t h g e = g e

asked_named : (value : ℕ) (rows : List (ℕ × ℕ × Result Transfer Why)) (kind code : ℕ) (transfer : Transfer) → NamesIn value rows
    → asked_at rows kind code ≡ Some (ok_of transfer) → IsNamed kind code value transfer
asked_named value [] kind code transfer h e = cc
asked_named value (row ∷ rows) kind code transfer h e =
    asked_by ((kind == row.0) && (code == row.1)) value kind code row.0 row.1 row.2 (asked_at rows kind code) transfer refl h.0
    (λ f. asked_named value rows kind code transfer h.1 f) e

reads_none : (protocol : Protocol) (view : DeviceView) → TakeNone (reports_read view protocol)
reads_none Report view = (refl, (refl, (refl, (refl, tt))))
reads_none Boot view = (refl, (refl, (refl, tt)))

reads_nothing : (protocol : Protocol) (view : DeviceView) → SetNone (reports_read view protocol)
reads_nothing Report view = (refl, (refl, (refl, (refl, tt))))
reads_nothing Boot view = (refl, (refl, (refl, tt)))

taken_nothing : (protocol : Protocol) → SetNone (reports_taken protocol)
taken_nothing Report = (refl, (refl, tt))
taken_nothing Boot = (refl, (refl, tt))

taken_report : (value : ℕ) (transfer : Transfer) → named UnknownReport (reports_taken Report) value ≡ ok_of transfer → report_of_value value ≡ report_in transfer
taken_report value transfer e =
    elim (cases_eq value 0x0201) [
      | inl same ↦ (let f : ok_of (Takes LedsWithId) ≡ ok_of transfer = rw same at e in rw (same, ← same_ok (Takes LedsWithId) transfer f) refl)
      | inr other ↦ (let a : (value == 0x0201) ≡ false = grind (arith, other, nat_tests) in elim (cases_eq value 0x0303) [
        | inl same ↦ (let f : ok_of (Takes FeatureData) ≡ ok_of transfer = rw same at e in rw (same, ← same_ok (Takes FeatureData) transfer f) refl)
        | inr neither ↦ (let b : (value == 0x0303) ≡ false = grind (arith, neither, nat_tests) in let f : err_of UnknownReport ≡ ok_of transfer = rw (a, b) at e in absurd (not_ok UnknownReport transfer f))
      ])
    ]

taken_boot : (value : ℕ) (transfer : Transfer) → named UnknownReport (reports_taken Boot) value ≡ ok_of transfer → report_of_value value ≡ report_in transfer
taken_boot value transfer e =
    elim (cases_eq value 0x0200) [
      | inl same ↦ (let f : ok_of (Takes LedsAlone) ≡ ok_of transfer = rw same at e in rw (same, ← same_ok (Takes LedsAlone) transfer f) refl)
      | inr other ↦ (let a : (value == 0x0200) ≡ false = grind (arith, other, nat_tests) in elim (cases_eq value 0x0303) [
        | inl same ↦ (let f : ok_of (Takes FeatureData) ≡ ok_of transfer = rw same at e in rw (same, ← same_ok (Takes FeatureData) transfer f) refl)
        | inr neither ↦ (let b : (value == 0x0303) ≡ false = grind (arith, neither, nat_tests) in let f : err_of UnknownReport ≡ ok_of transfer = rw (a, b) at e in absurd (not_ok UnknownReport transfer f))
      ])
    ]

taken_named : (protocol : Protocol) (value : ℕ) (transfer : Transfer) → named UnknownReport (reports_taken protocol) value ≡ ok_of transfer → report_of_value value ≡ report_in transfer
taken_named Report value transfer e = taken_report value transfer e
taken_named Boot value transfer e = taken_boot value transfer e

names_none : (why : Why) (rows : List (ℕ × Transfer)) (kind code value : ℕ) (transfer : Transfer) → report_for kind code value ≡ None → effect_for kind code value ≡ Nothing
    → TakeNone rows → SetNone rows → named why rows value ≡ ok_of transfer → IsNamed kind code value transfer
names_none why rows kind code value transfer r f t s e =
    record { report = r ∙ sym (named_none why rows value transfer t e); effect = f ∙ sym (named_nothing why rows value transfer s e) }

protocol_named : (byte value : ℕ) (transfer : Transfer) → ok_of (Reads (byte ∷ [])) ≡ ok_of transfer → IsNamed 0xA1 0x03 value transfer
protocol_named byte value transfer e = rw (← same_ok (Reads (byte ∷ [])) transfer e) (record { report = refl; effect = refl })

requests_named : (view : DeviceView) (value : ℕ) → NamesIn value (requests view value)
requests_named view value = (
  λ transfer e. names_none UnknownDescriptor device_descriptors 0x80 0x06 value transfer refl refl (refl, (refl, tt)) (refl, (refl, tt)) e,
  (
    λ transfer e. names_none UnknownDescriptor interface_descriptors 0x81 0x06 value transfer refl refl (refl, (refl, tt)) (refl, (refl, tt)) e,
    (
      λ transfer e. names_none UnknownReport (reports_read view view.protocol) 0xA1 0x01 value transfer refl refl (reads_none view.protocol view) (reads_nothing view.protocol view) e,
      (
        λ transfer e. names_none UnknownReport (idle_values view) 0xA1 0x02 value transfer refl refl (refl, (refl, (refl, tt))) (refl, (refl, (refl, tt))) e,
        (
          λ transfer e. protocol_named (protocol_byte view.protocol) value transfer e,
          (
            λ transfer e. record { report = taken_named view.protocol value transfer e; effect = sym (named_nothing UnknownReport (reports_taken view.protocol) value transfer (taken_nothing view.protocol) e) },
            (
              λ transfer e. record { report = sym (named_none UnknownReport (idle_effects (value / 256)) (value % 256) transfer (refl, (refl, (refl, tt))) e); effect = ap effect_set e },
              (
                λ transfer e. record { report = sym (named_none BadProtocol protocol_effects value transfer (refl, (refl, tt)) e); effect = ap effect_set e },
                tt,
              ),
            ),
          ),
        ),
      ),
    ),
  ),
)

length_by : (b : Bool) (other transfer : Transfer) → (if b then ok_of other else err_of WrongLength) ≡ ok_of transfer → ok_of other ≡ ok_of transfer
length_by true other transfer e = e
length_by false other transfer e = absurd (not_ok WrongLength transfer e)

with_length_ok : (asked : Result Transfer Why) (length : ℕ) (transfer : Transfer) → with_length asked length ≡ ok_of transfer → asked ≡ ok_of transfer
with_length_ok (Err why) length transfer e = absurd (not_ok why transfer e)
with_length_ok (Ok other) length transfer e = length_by (takes_length other length) other transfer e

interface_by : (b : Bool) (asked : Result Transfer Why) (transfer : Transfer) → (if b then err_of WrongInterface else asked) ≡ ok_of transfer → asked ≡ ok_of transfer
interface_by true asked transfer e = absurd (not_ok WrongInterface transfer e)
interface_by false asked transfer e = e

checked_ok : (asked : Option (Result Transfer Why)) (request : SetupFields) (transfer : Transfer) → checked asked request ≡ ok_of transfer → asked ≡ Some (ok_of transfer)
checked_ok None request transfer e = absurd (not_ok UnknownRequest transfer e)
checked_ok (Some asked) request transfer e =
    ap Some (with_length_ok asked request.length transfer (interface_by (not (request.kind == 0x80) && not (request.index == 0)) (with_length asked request.length) transfer e))

-- a transfer that begins is the one that its SETUP packet names
pub begins_named : (request : SetupFields) (view : DeviceView) (transfer : Transfer) → transfer_of request view ≡ ok_of transfer
    → (report_of_request request ≡ report_in transfer) × (effect_of_request request ≡ effect_in transfer)
unfolding transfer_of
begins_named request view transfer e =
    let n : IsNamed request.kind request.code request.value transfer =
    asked_named request.value (requests view request.value) request.kind request.code transfer (requests_named view request.value)
    (checked_ok (asked_at (requests view request.value) request.kind request.code) request transfer e) in
    (n.report, n.effect)
