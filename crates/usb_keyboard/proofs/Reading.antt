-- What a request reads: at least a byte, and at most 99.
use Rattle.std.proofs.Common.{◌≡◌, ◌==◌, ◌&&◌, ◌/◌, ◌%◌, ◌*◌, nat_lt, drop, not, ℕ, zero, suc, ◌≤◌, length, take, Bool, true, false, if◌then◌else◌, List, [], ◌∷◌, Option, Some, None, Result, Ok, Err, refl, ap, subst, arith}
use Rattle.std.proofs.lemmas.Bool.Decides.{nat_tests}
use Rattle.layers.specs.Codes.{DefaultCodes}
use Rattle.reports.specs.declared.Input.{Input}
use Rattle.reports.specs.declared.Input.TheVariants.{Boot, One, Two}
use Rattle.reports.specs.declared.Protocol.{Protocol}
use Rattle.reports.specs.declared.Protocol.TheVariants as Protocols
use Rattle.reports.specs.Wanted.{wanted}
use Rattle.reports.proofs.LayoutTheorems.{boot-layout, bitmap-layout, consumer-layout}
use Rattle.key_reports.specs.Past.{keys_after, consumer_after}
use Rattle.descriptor_build.specs.Served.{device_bytes, configuration_bytes, hid_bytes, report_bytes}
use Rattle.control_ep.specs.declared.why.Why.{Why}
use Rattle.control_ep.specs.declared.why.Why.TheVariants.{WrongInterface, WrongLength, UnknownRequest, UnknownDescriptor, UnknownReport, BadProtocol}
use Rattle.control_ep.specs.declared.answer.DeviceView.{DeviceView}
use Rattle.control_ep.specs.Answers.{packet_or_stall}
use Rattle.control_ep.specs.Packets.{packet_at}
use Rattle.control_ep.specs.Requests.{named, reports_read, reports_taken, idle_values, idle_effects, protocol_effects, device_descriptors, interface_descriptors, requests, asked_at, takes_length, with_length, checked, request_of, transfer_of}
use Rattle.control_ep.specs.Transfers.{SetupFields, Transfer, Reads}
use Rattle.keyboard.specs.Calls.{Call}
use Rattle.keyboard.specs.Endpoint.{view_after}
use Rattle.keyboard.specs.Keys.{key_calls}
use Rattle.usb_device.specs.declared.whole_transfers.Status.TheVariants.{Done}
use Rattle.usb_device.specs.Whole.{status_of}
use Rattle.usb_keyboard.specs.Plain.{plain}

-- ---- how long it is

record IsSized (bytes : List ℕ) : Type 0 where
  pub some : 1 ≤ length bytes
  pub few : length bytes ≤ 99

abbrev Sized : Transfer → Type 0
Sized (Reads bytes) = IsSized bytes
Sized _ = Unit {0}

-- and its length is taken
record Fits (transfer : Transfer) (asked : ℕ) : Type 0 where
  pub sized : Sized transfer
  pub takes : takes_length transfer asked ≡ true

abbrev ok_of : Transfer → Result Transfer Why
ok_of transfer = Ok transfer

abbrev err_of : Why → Result Transfer Why
err_of why = Err why

same_ok : (a b : Transfer) → ok_of a ≡ ok_of b → a ≡ b
same_ok a b e = cc

same_some : (a b : Result Transfer Why) → Some a ≡ Some b → a ≡ b
same_some a b e = cc

not_ok : (why : Why) (b : Transfer) → err_of why ≡ ok_of b → ⊥
not_ok why b e = cc

abbrev AllSized : List (ℕ × Transfer) → Type 0
AllSized [] = Unit {0}
AllSized (row ∷ rows) = Sized row.1 × AllSized rows

sized_by : (b : Bool) (first : Transfer) (rest : Result Transfer Why) (transfer : Transfer) → Sized first → (rest ≡ ok_of transfer → Sized transfer) → (if b then ok_of first else rest) ≡ ok_of transfer → Sized transfer
sized_by true first rest transfer h k e = subst Sized (same_ok first transfer e) h
sized_by false first rest transfer h k e = k e

named_sized : (why : Why) (rows : List (ℕ × Transfer)) (number : ℕ) (transfer : Transfer) → AllSized rows → named why rows number ≡ ok_of transfer → Sized transfer
named_sized why [] number transfer h e = absurd (not_ok why transfer e)
named_sized why (row ∷ rows) number transfer h e = sized_by (number == row.0) row.1 (named why rows number) transfer h.0 (λ f. named_sized why rows number transfer h.1 f) e

abbrev SizedIn : List (ℕ × ℕ × Result Transfer Why) → Type 0
SizedIn [] = Unit {0}
SizedIn (row ∷ rows) = ((transfer : Transfer) → row.2 ≡ Ok transfer → Sized transfer) × SizedIn rows

asked_by : (b : Bool) (first : Result Transfer Why) (rest : Option (Result Transfer Why)) (transfer : Transfer) → ((t : Transfer) → first ≡ Ok t → Sized t) → (rest ≡ Some (ok_of transfer) → Sized transfer)
    → (if b then Some first else rest) ≡ Some (ok_of transfer) → Sized transfer
asked_by true first rest transfer h g e = h transfer (same_some first (ok_of transfer) e)
asked_by false first rest transfer h g e = g e

asked_sized : (rows : List (ℕ × ℕ × Result Transfer Why)) (kind code : ℕ) (transfer : Transfer) → SizedIn rows → asked_at rows kind code ≡ Some (ok_of transfer) → Sized transfer
asked_sized [] kind code transfer h e = cc
asked_sized (row ∷ rows) kind code transfer h e =
    asked_by ((kind == row.0) && (code == row.1)) row.2 (asked_at rows kind code) transfer h.0 (λ f. asked_sized rows kind code transfer h.1 f) e

-- the reports of a keyboard
record ViewSized (view : DeviceView) : Type 0 where
  pub bitmap : IsSized view.bitmap
  pub consumer : IsSized view.consumer
  pub boot : IsSized view.boot
  pub feature : IsSized view.feature

byte_sized : (byte : ℕ) → IsSized (byte ∷ [])
byte_sized byte = record { some = omega arith; few = omega arith }

leds_sized : (byte leds : ℕ) → IsSized (byte ∷ leds ∷ [])
leds_sized byte leds = record { some = omega arith; few = omega arith }

read_sized : (protocol : Protocol) (view : DeviceView) → ViewSized view → AllSized (reports_read view protocol)
read_sized Protocols.Report view v = (v.bitmap, (v.consumer, (leds_sized 1 view.leds, (v.feature, tt))))
read_sized Protocols.Boot view v = (v.boot, (byte_sized view.leds, (v.feature, tt)))

taken_sized : (protocol : Protocol) → AllSized (reports_taken protocol)
taken_sized Protocols.Report = (tt, (tt, tt))
taken_sized Protocols.Boot = (tt, (tt, tt))

by_length : (bytes : List ℕ) (n : ℕ) → length bytes ≡ n → 1 ≤ n → n ≤ 99 → IsSized bytes
by_length bytes n e l m = record { some = omega (arith, e, l); few = omega (arith, e, m) }

requests_sized : (view : DeviceView) (value : ℕ) → ViewSized view → SizedIn (requests view value)
requests_sized view value v = (
  λ transfer e. named_sized UnknownDescriptor device_descriptors value transfer (by_length device_bytes 18 refl (omega arith) (omega arith), (by_length configuration_bytes 34 refl (omega arith) (omega arith), tt)) e,
  (
    λ transfer e. named_sized UnknownDescriptor interface_descriptors value transfer (by_length hid_bytes 9 refl (omega arith) (omega arith), (by_length report_bytes 99 refl (omega arith) (omega arith), tt)) e,
    (
      λ transfer e. named_sized UnknownReport (reports_read view view.protocol) value transfer (read_sized view.protocol view v) e,
      (
        λ transfer e. named_sized UnknownReport (idle_values view) value transfer (byte_sized view.idle_one, (byte_sized view.idle_one, (byte_sized view.idle_two, tt))) e,
        (
          λ transfer e. subst Sized (same_ok _ transfer e) (byte_sized _),
          (
            λ transfer e. named_sized UnknownReport (reports_taken view.protocol) value transfer (taken_sized view.protocol) e,
            (
              λ transfer e. named_sized UnknownReport (idle_effects (value / 256)) (value % 256) transfer (tt, (tt, (tt, tt))) e,
              (
                λ transfer e. named_sized BadProtocol protocol_effects value transfer (tt, (tt, tt)) e,
                tt,
              ),
            ),
          ),
        ),
      ),
    ),
  ),
)

length_by : (b : Bool) (other transfer : Transfer) (asked : ℕ) → takes_length other asked ≡ b → (if b then ok_of other else err_of WrongLength) ≡ ok_of transfer → (ok_of other ≡ ok_of transfer) × (takes_length transfer asked ≡ true)
length_by true other transfer asked t e = (e, subst (λ x. takes_length x asked ≡ true) (same_ok other transfer e) t)
length_by false other transfer asked t e = absurd (not_ok WrongLength transfer e)

with_length_ok : (asked : Result Transfer Why) (length : ℕ) (transfer : Transfer) → with_length asked length ≡ ok_of transfer → (asked ≡ ok_of transfer) × (takes_length transfer length ≡ true)
with_length_ok (Err why) length transfer e = absurd (not_ok why transfer e)
with_length_ok (Ok other) length transfer e = length_by (takes_length other length) other transfer length refl e

interface_by : (b : Bool) (asked : Result Transfer Why) (transfer : Transfer) → (if b then err_of WrongInterface else asked) ≡ ok_of transfer → asked ≡ ok_of transfer
interface_by true asked transfer e = absurd (not_ok WrongInterface transfer e)
interface_by false asked transfer e = e

fits_by : (asked : Option (Result Transfer Why)) (request : SetupFields) (transfer : Transfer) → (asked ≡ Some (ok_of transfer) → Sized transfer) → checked asked request ≡ ok_of transfer → Fits transfer request.length
fits_by None request transfer h e = absurd (not_ok UnknownRequest transfer e)
fits_by (Some asked) request transfer h e =
    let w = with_length_ok asked request.length transfer (interface_by (not (request.kind == 0x80) && not (request.index == 0)) (with_length asked request.length) transfer e) in
    record { sized = h (ap Some w.0); takes = w.1 }

fits : (request : SetupFields) (view : DeviceView) (transfer : Transfer) → ViewSized view → transfer_of request view ≡ ok_of transfer → Fits transfer request.length
unfolding transfer_of
fits request view transfer v e =
    fits_by (asked_at (requests view request.value) request.kind request.code) request transfer (asked_sized (requests view request.value) request.kind request.code transfer (requests_sized view request.value v)) e

wanted_sized : (keys consumer : ℕ → Bool) (input : Input) → IsSized (wanted keys consumer input)
wanted_sized keys consumer Boot = let e = (boot-layout keys).size in record { some = omega (arith, e); few = omega (arith, e) }
wanted_sized keys consumer One = let e = (bitmap-layout keys).size in record { some = omega (arith, e); few = omega (arith, e) }
wanted_sized keys consumer Two = let e = (consumer-layout consumer).size in record { some = omega (arith, e); few = omega (arith, e) }

module _ (defaults : DefaultCodes) where
  view_sized : (start : List ℕ) (past : List Call) → ViewSized (view_after defaults start past)
  unfolding view_after
  view_sized start past =
      let calls = key_calls defaults start past in
      record {
        bitmap = wanted_sized (keys_after calls) (consumer_after calls) One;
        consumer = wanted_sized (keys_after calls) (consumer_after calls) Two;
        boot = wanted_sized (keys_after calls) (consumer_after calls) Boot;
        feature = record { some = omega arith; few = omega arith };
      }

  pub reads_sized : (start : List ℕ) (past : List Call) (setup bytes : List ℕ) → transfer_of (request_of setup) (view_after defaults start past) ≡ Ok (Reads bytes) → (1 ≤ length bytes) × (length bytes ≤ 99)
  reads_sized start past setup bytes e =
      let f = fits (request_of setup) (view_after defaults start past) (Reads bytes) (view_sized start past) e in
      (f.sized.some, f.sized.few)

  pub takes_its_length : (start : List ℕ) (past : List Call) (setup : List ℕ) (transfer : Transfer) → transfer_of (request_of setup) (view_after defaults start past) ≡ Ok transfer → takes_length transfer (request_of setup).length ≡ true
  takes_its_length start past setup transfer e = (fits (request_of setup) (view_after defaults start past) transfer (view_sized start past) e).takes

-- ---- its first packet

-- it is not empty, where a byte is asked for
pub first_packet : (bytes : List ℕ) (asked : ℕ) → 1 ≤ length bytes → (asked == 0) ≡ false → status_of (plain (packet_or_stall (packet_at bytes asked 0))) ≡ Done → ⊥
unfolding packet_at
first_packet [] asked l n e = omega (arith, l)
first_packet (byte ∷ bytes) zero l n e = cc
first_packet (byte ∷ bytes) (suc asked) l n e =
    let sent : List ℕ = take (suc asked) (byte ∷ bytes) in
    let some : nat_lt (8 * 0) (length sent) ≡ true = grind (arith, nat_tests) in
    let f : status_of (plain (packet_or_stall (Some (take 8 (drop (8 * 0) sent))))) ≡ Done = rw some at e in
    cc
