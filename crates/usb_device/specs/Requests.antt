-- Trusted: which standard requests the USB device layer serves, by what endpoint 1 is (USB 2.0 sections 9.3 and 9.4).
use Rattle.std.specs.Prelude.{ℕ, ◌+◌, ◌*◌, ◌==◌, ◌&&◌, ◌||◌, nat_lt, not, bit_and, Bool, true, false, List, [], ◌∷◌, length, if◌then◌else◌, slice_index, Option, Some, None}
use Rattle.usb_device.specs.Strings.{string_descriptor}
use Rattle.usb_device.specs.declared.answer.Endpoint1.{Endpoint1}
use Rattle.usb_device.specs.declared.answer.Endpoint1.TheVariants.{Off, Ready, Halted}
use Rattle.usb_device.specs.declared.answer.Change.{Change}
use Rattle.usb_device.specs.declared.answer.Change.TheVariants.{Address, Endpoint, Wakeup}

-- the fields of a SETUP packet: bmRequestType, bRequest, wValue, wIndex, wLength (table 9-2)
pub record SetupFields : Type 0 where
  pub kind : ℕ
  pub code : ℕ
  pub value : ℕ
  pub index : ℕ
  pub size : ℕ

abbrev pub word_at : List ℕ → ℕ → ℕ
word_at bytes i = slice_index bytes i + 256 * slice_index bytes (i + 1)

abbrev pub request_of : List ℕ → SetupFields
request_of setup = record {
  kind = slice_index setup 0;
  code = slice_index setup 1;
  value = word_at setup 2;
  index = word_at setup 4;
  size = word_at setup 6;
}

-- what a request that is served begins
pub data Served : Type 0 where
  -- the host reads these bytes
  Reads : List ℕ → Served
  -- there is no data, and the status stage brings this change
  Sets : Change → Served

-- the descriptors that a maker lends (section 9.6), and names in UTF-16, of which an empty one is none
pub record Lent : Type 0 where
  pub device : List ℕ
  pub configuration : List ℕ
  pub hid : List ℕ
  pub manufacturer : List ℕ
  pub product : List ℕ
  pub serial_number : List ℕ

-- configured or not (section 9.1.1)
abbrev pub is_configured : Endpoint1 → Bool
is_configured Off = false
is_configured _ = true

abbrev pub is_halted : Endpoint1 → Bool
is_halted Halted = true
is_halted _ = false

abbrev pub bit : Bool → ℕ
bit true = 1
bit false = 0

abbrev pub served_if : Bool → Served → Option Served
served_if true served = Some served
served_if false served = None

-- wValue, wIndex and wLength are these
abbrev pub names : SetupFields → ℕ → ℕ → Bool
names r value index = (r.value == value) && (r.index == index)

-- GET_STATUS (9.4.5): of the device, which the bus powers, and whose bit 1 is whether remote wakeup is enabled, of interface 0, of endpoint 0 in either
-- direction, of endpoint 1
abbrev pub device_status : Bool → SetupFields → Option Served
device_status wakeup r = served_if (names r 0 0) (Reads (2 * bit wakeup ∷ 0 ∷ []))

abbrev pub interface_status : Endpoint1 → SetupFields → Option Served
interface_status state r = served_if (is_configured state && names r 0 0) (Reads (0 ∷ 0 ∷ []))

abbrev pub endpoint_status : Endpoint1 → SetupFields → Option Served
endpoint_status state r =
    if names r 0 0 || names r 0 0x80 then Some (Reads (0 ∷ 0 ∷ []))
    else served_if (is_configured state && names r 0 0x81) (Reads (bit (is_halted state) ∷ 0 ∷ []))

-- the configuration descriptor says that the device can wake its host (bit 5 of bmAttributes, table 9-10)
abbrev pub can_wake : Lent → Bool
can_wake lent = nat_lt 7 (length lent.configuration) && not (bit_and (slice_index lent.configuration 7) 0x20 == 0)

-- CLEAR_FEATURE and SET_FEATURE of DEVICE_REMOTE_WAKEUP (9.4.1, 9.4.9), of a device that can
abbrev pub remote_wakeup : Lent → SetupFields → Bool → Option Served
remote_wakeup lent r next = served_if (can_wake lent && names r 1 0 && (r.size == 0)) (Sets (Wakeup next))

-- CLEAR_FEATURE and SET_FEATURE of ENDPOINT_HALT of endpoint 1 (9.4.1, 9.4.9)
abbrev pub halt : Endpoint1 → SetupFields → Endpoint1 → Option Served
halt state r next = served_if (is_configured state && names r 0 0x81 && (r.size == 0)) (Sets (Endpoint next))

-- SET_ADDRESS (9.4.6), 0 to 127, while the device is not configured
abbrev pub set_address : Endpoint1 → SetupFields → Option Served
set_address state r =
    served_if (nat_lt r.value 128 && not (is_configured state) && (r.index == 0) && (r.size == 0)) (Sets (Address r.value))

-- GET_CONFIGURATION and SET_CONFIGURATION (9.4.2, 9.4.7)
abbrev pub configuration : Endpoint1 → SetupFields → Option Served
configuration state r = served_if (names r 0 0) (Reads (bit (is_configured state) ∷ []))

abbrev pub set_configuration : SetupFields → Option Served
set_configuration r =
    if names r 0 0 && (r.size == 0) then Some (Sets (Endpoint Off))
    else served_if (names r 1 0 && (r.size == 0)) (Sets (Endpoint Ready))

-- GET_INTERFACE and SET_INTERFACE (9.4.4, 9.4.10)
abbrev pub interface : Endpoint1 → SetupFields → Option Served
interface state r = served_if (is_configured state && names r 0 0) (Reads (0 ∷ []))

abbrev pub set_interface : Endpoint1 → SetupFields → Option Served
set_interface state r = served_if (is_configured state && names r 0 0 && (r.size == 0)) (Sets (Endpoint Ready))

-- GET_DESCRIPTOR (9.4.3) of the device, of the configuration, and of the strings: string 0 names the one language, English of
-- the United States, in which the others are asked for
abbrev pub has_names : Lent → Bool
has_names lent = not (length lent.manufacturer == 0) || not (length lent.product == 0) || not (length lent.serial_number == 0)

abbrev pub string : SetupFields → List ℕ → Option Served
string r text = served_if ((r.index == 0x0409) && not (length text == 0)) (Reads (string_descriptor text))

abbrev pub descriptors : Lent → SetupFields → List (ℕ × Option Served)
descriptors lent r =
    (0x0100, Some (Reads lent.device)) ∷
    (0x0200, Some (Reads lent.configuration)) ∷
    (0x0300, served_if (has_names lent) (Reads (string_descriptor (0x0409 ∷ [])))) ∷
    (0x0301, string r lent.manufacturer) ∷
    (0x0302, string r lent.product) ∷
    (0x0303, string r lent.serial_number) ∷ []

abbrev pub at_value : List (ℕ × Option Served) → ℕ → Option Served
at_value [] value = None
at_value (row ∷ rest) value = if value == row.0 then row.1 else at_value rest value

abbrev pub descriptor : Lent → SetupFields → Option Served
descriptor lent r = at_value (descriptors lent r) r.value

-- GET_DESCRIPTOR of the HID descriptor (HID 1.11 section 7.1.1), which is the interface's
abbrev pub hid_descriptor : Lent → SetupFields → Option Served
hid_descriptor lent r = served_if (names r 0x2100 0) (Reads lent.hid)

-- each request by bmRequestType and bRequest (tables 9-3, 9-4), by what endpoint 1 is and whether remote wakeup is enabled
abbrev pub rows : Lent → Endpoint1 → Bool → SetupFields → List (ℕ × ℕ × Option Served)
rows lent state wakeup r =
    (0x80, 0x00, device_status wakeup r) ∷
    (0x81, 0x00, interface_status state r) ∷
    (0x82, 0x00, endpoint_status state r) ∷
    (0x02, 0x01, halt state r Ready) ∷
    (0x02, 0x03, halt state r Halted) ∷
    (0x00, 0x01, remote_wakeup lent r false) ∷
    (0x00, 0x03, remote_wakeup lent r true) ∷
    (0x00, 0x05, set_address state r) ∷
    (0x80, 0x06, descriptor lent r) ∷
    (0x81, 0x06, hid_descriptor lent r) ∷
    (0x80, 0x08, configuration state r) ∷
    (0x00, 0x09, set_configuration r) ∷
    (0x81, 0x0A, interface state r) ∷
    (0x01, 0x0B, set_interface state r) ∷ []

abbrev pub row_at : List (ℕ × ℕ × Option Served) → ℕ → ℕ → Option Served
row_at [] kind code = None
row_at (row ∷ rest) kind code = if (kind == row.0) && (code == row.1) then row.2 else row_at rest kind code

-- what a SETUP packet is served with; none where the request is left to the device behind
unfoldable pub served : Lent → Endpoint1 → Bool → SetupFields → Option Served
served lent state wakeup r = row_at (rows lent state wakeup r) r.kind r.code
