-- Trusted: the requests that are served, and the order in which a SETUP packet is checked (USB 2.0 sections 9.3 and 9.4.3,
-- HID 1.11 section 7).
use Rattle.shapes.specs.Shapes.{Bytes}
use Rattle.std.specs.Prelude.{ℕ, ◌+◌, ◌*◌, ◌/◌, ◌%◌, ◌==◌, ◌&&◌, not, Bool, true, List, [], ◌∷◌, if◌then◌else◌, slice_index, Option, Some, None, Result, Ok, Err}
use Rattle.descriptor_build.specs.Served.{device_bytes, configuration_bytes, hid_bytes, report_bytes}
use Rattle.reports.specs.declared.Protocol.{Protocol}
use Rattle.reports.specs.declared.Protocol.TheVariants as Protocols
use Rattle.reports.specs.declared.IdleId.TheVariants as Idles
use Rattle.control_ep.specs.declared.why.Why.{Why}
use Rattle.control_ep.specs.declared.why.Why.TheVariants.{UnknownRequest, WrongInterface, UnknownDescriptor, UnknownReport, WrongLength, BadProtocol}
use Rattle.control_ep.specs.declared.answer.Effect.TheVariants.{Idle, SetProtocol}
use Rattle.control_ep.specs.declared.answer.DeviceView.{DeviceView}
use Rattle.control_ep.specs.Transfers.{SetupFields, HostReport, LedsWithId, LedsAlone, FeatureData, Transfer, Reads, Takes, Sets}

-- two bytes, the low one first
abbrev pub word_at : Bytes → ℕ → ℕ
word_at bytes i = slice_index bytes i + 256 * slice_index bytes (i + 1)

-- bmRequestType, bRequest, wValue, wIndex, wLength (USB 2.0 table 9-2)
abbrev pub request_of : Bytes → SetupFields
request_of setup = record {
  kind = slice_index setup 0;
  code = slice_index setup 1;
  value = word_at setup 2;
  index = word_at setup 4;
  length = word_at setup 6;
}

-- GET_DESCRIPTOR (USB 2.0 section 9.4.3, HID 1.11 section 7.1.1) by wValue: the type in the high byte, the
-- index, 0, in the low one
abbrev pub device_descriptors : List (ℕ × Transfer)
device_descriptors =
    (0x0100, Reads device_bytes) ∷
    (0x0200, Reads configuration_bytes) ∷ []

abbrev pub interface_descriptors : List (ℕ × Transfer)
interface_descriptors =
    (0x2100, Reads hid_bytes) ∷
    (0x2200, Reads report_bytes) ∷ []

-- GET_REPORT (HID 1.11 section 7.2.1) by wValue: the type (1 input, 2 output, 3 feature) in the high byte, the
-- Report ID, or 0, in the low one
abbrev pub reports_read : DeviceView → Protocol → List (ℕ × Transfer)
reports_read view Protocols.Report =
    (0x0101, Reads view.bitmap) ∷
    (0x0102, Reads view.consumer) ∷
    (0x0201, Reads (0x01 ∷ view.leds ∷ [])) ∷
    (0x0303, Reads view.feature) ∷ []
reports_read view Protocols.Boot =
    (0x0100, Reads view.boot) ∷
    (0x0200, Reads (view.leds ∷ [])) ∷
    (0x0303, Reads view.feature) ∷ []

-- GET_IDLE (HID 1.11 section 7.2.3) by wValue: the Report ID; ID 0 has the value of ID 1
abbrev pub idle_values : DeviceView → List (ℕ × Transfer)
idle_values view =
    (0x0000, Reads (view.idle_one ∷ [])) ∷
    (0x0001, Reads (view.idle_one ∷ [])) ∷
    (0x0002, Reads (view.idle_two ∷ [])) ∷ []

-- GET_PROTOCOL (HID 1.11 section 7.2.5)
abbrev pub protocol_byte : Protocol → ℕ
protocol_byte Protocols.Boot = 0
protocol_byte Protocols.Report = 1

-- SET_REPORT (HID 1.11 section 7.2.2) by wValue: as in GET_REPORT
abbrev pub reports_taken : Protocol → List (ℕ × Transfer)
reports_taken Protocols.Report =
    (0x0201, Takes LedsWithId) ∷
    (0x0303, Takes FeatureData) ∷ []
reports_taken Protocols.Boot =
    (0x0200, Takes LedsAlone) ∷
    (0x0303, Takes FeatureData) ∷ []

-- SET_IDLE (HID 1.11 section 7.2.4) by wValue's low byte, the Report ID; the duration is the high byte
abbrev pub idle_effects : ℕ → List (ℕ × Transfer)
idle_effects duration =
    (0x00, Sets (Idle Idles.All duration)) ∷
    (0x01, Sets (Idle Idles.One duration)) ∷
    (0x02, Sets (Idle Idles.Two duration)) ∷ []

-- SET_PROTOCOL (HID 1.11 section 7.2.6) by wValue
abbrev pub protocol_effects : List (ℕ × Transfer)
protocol_effects =
    (0x0000, Sets (SetProtocol Protocols.Boot)) ∷
    (0x0001, Sets (SetProtocol Protocols.Report)) ∷ []

-- what stands beside the number in a table; this reason where it is not there
abbrev pub named : Why → List (ℕ × Transfer) → ℕ → Result Transfer Why
named why [] number = Err why
named why (row ∷ rows) number = if number == row.0 then Ok row.1 else named why rows number

-- the table of requests: bmRequestType, bRequest, and what wValue asks for
abbrev pub requests : DeviceView → ℕ → List (ℕ × ℕ × Result Transfer Why)
requests view value =
    (0x80, 0x06, named UnknownDescriptor device_descriptors value) ∷  -- GET_DESCRIPTOR
    (0x81, 0x06, named UnknownDescriptor interface_descriptors value) ∷  -- GET_DESCRIPTOR
    (0xA1, 0x01, named UnknownReport (reports_read view view.protocol) value) ∷  -- GET_REPORT
    (0xA1, 0x02, named UnknownReport (idle_values view) value) ∷  -- GET_IDLE
    (0xA1, 0x03, Ok (Reads (protocol_byte view.protocol ∷ []))) ∷  -- GET_PROTOCOL
    (0x21, 0x09, named UnknownReport (reports_taken view.protocol) value) ∷  -- SET_REPORT
    (0x21, 0x0A, named UnknownReport (idle_effects (value / 256)) (value % 256)) ∷  -- SET_IDLE
    (0x21, 0x0B, named BadProtocol protocol_effects value) ∷ []  -- SET_PROTOCOL

-- the row of bmRequestType and bRequest
abbrev pub asked_at : List (ℕ × ℕ × Result Transfer Why) → ℕ → ℕ → Option (Result Transfer Why)
asked_at [] kind code = None
asked_at (row ∷ rows) kind code =
    if (kind == row.0) && (code == row.1) then Some row.2 else asked_at rows kind code

-- the length of a report that is taken
abbrev pub length_of : HostReport → ℕ
length_of LedsWithId = 2
length_of LedsAlone = 1
length_of FeatureData = 6

-- its Report ID, where it has one
abbrev pub id_of : HostReport → Option ℕ
id_of LedsWithId = Some 0x01
id_of LedsAlone = None
id_of FeatureData = Some 0x03

-- a read takes every wLength, a report from the host its own length, a request without data 0
abbrev pub takes_length : Transfer → ℕ → Bool
takes_length (Reads _) length = true
takes_length (Takes report) length = length == length_of report
takes_length (Sets _) length = length == 0

abbrev pub with_length : Result Transfer Why → ℕ → Result Transfer Why
with_length (Err why) length = Err why
with_length (Ok transfer) length = if takes_length transfer length then Ok transfer else Err WrongLength

-- the checks of a SETUP packet in their order: bmRequestType and bRequest, the interface (not of a request to
-- the device), wValue, wLength
abbrev pub checked : Option (Result Transfer Why) → SetupFields → Result Transfer Why
checked None request = Err UnknownRequest
checked (Some asked) request =
    if not (request.kind == 0x80) && not (request.index == 0) then Err WrongInterface
    else with_length asked request.length

-- the transfer that a SETUP packet begins, or why it is refused
unfoldable pub transfer_of : SetupFields → DeviceView → Result Transfer Why
transfer_of request view = checked (asked_at (requests view request.value) request.kind request.code) request
