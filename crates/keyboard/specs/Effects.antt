-- Trusted: what the host has set: LEDs, the selected entry, the protocol and the idle values, read off the answers that
-- were given and the SETUP packets that they belong to.
use Rattle.shapes.specs.Shapes.{Bytes}
use Rattle.std.specs.Prelude.{ℕ, ◌%◌, ◌/◌, ◌^◌, ◌==◌, ◌&&◌, if◌then◌else◌, Option, None, Some, unwrap_or, Result, Ok, List, [], ◌∷◌, slice_index}
use Rattle.std.specs.Option.{option_map, option_and_then, option_map_or}
use Rattle.reports.specs.declared.Protocol.{Protocol}
use Rattle.reports.specs.declared.Protocol.TheVariants.{Report}
use Rattle.control_ep.specs.declared.why.Why.{Why}
use Rattle.control_ep.specs.declared.why.Why.TheVariants.{UnknownReport, BadProtocol}
use Rattle.control_ep.specs.declared.answer.EpAnswer.{EpAnswer}
use Rattle.control_ep.specs.declared.answer.EpAnswer.TheVariants.{Ack}
use Rattle.control_ep.specs.declared.answer.Effect.{Effect}
use Rattle.control_ep.specs.declared.answer.Effect.TheVariants.{Nothing, SetProtocol}
use Rattle.control_ep.specs.Transfers.{SetupFields, HostReport, LedsWithId, LedsAlone, FeatureData, Transfer, Sets}
use Rattle.control_ep.specs.Requests.{request_of, named, idle_effects, protocol_effects}
use Rattle.control_ep.specs.Stage.{is_empty_packet}
use Rattle.keyboard.specs.Calls.{Call, Out, In, BusReset, setup_of}

-- the report that a wValue names (HID 1.11 section 7.2.2): its type, 2 output or 3 feature, in the high byte, its
-- Report ID, or 0, in the low one
abbrev pub report_of_value : ℕ → Option HostReport
report_of_value value =
    if value == 0x0201 then Some LedsWithId
    else (if value == 0x0200 then Some LedsAlone
    else (if value == 0x0303 then Some FeatureData
    else None))

-- the report that SET_REPORT names
abbrev pub report_of_request : SetupFields → Option HostReport
report_of_request request =
    if (request.kind == 0x21) && (request.code == 0x09) then report_of_value request.value else None

-- the report that a SETUP packet names by SET_REPORT, if there is such a packet and it names one
unfoldable pub report_named : Option Bytes → Option HostReport
report_named setup = option_and_then (λ bytes. report_of_request (request_of bytes)) setup

-- a report that the host has sent: which one its SETUP packet named, and its bytes
pub record SentReport : Type 0 where
  pub report : HostReport
  pub bytes : Bytes

-- the report that a call took: an OUT packet that was acknowledged, of a transfer that names a report
abbrev pub report_taken : List Call → Call → Option SentReport
report_taken before (Out packet Ack) = option_map (λ report. record { report = report; bytes = packet }) (report_named (setup_of before))
report_taken before _ = None

-- the LEDs of a report, bits 0 to 4 (HUT page 08h), and none of a feature report
abbrev pub leds_of : HostReport → Bytes → Option ℕ
leds_of LedsWithId bytes = Some (slice_index bytes 1 % 2 ^ 5)
leds_of LedsAlone bytes = Some (slice_index bytes 0 % 2 ^ 5)
leds_of FeatureData bytes = None

-- the LEDs of the report that a call took, if it took one that has LEDs
abbrev pub leds_in : Option SentReport → Option ℕ
leds_in taken = option_and_then (λ sent. leds_of sent.report sent.bytes) taken

-- the LEDs: those of the latest output report since the start or the latest bus reset, else none
unfoldable pub leds_after : List Call → ℕ
leds_after [] = 0
leds_after (BusReset ∷ before) = 0
leds_after (call ∷ before) = unwrap_or (leds_in (report_taken before call)) (leds_after before)

-- an entry of the keymap, by layer and key
pub record Entry : Type 0 where
  pub layer : ℕ
  pub key : ℕ

-- the entry that a feature report of operation 0 selects
abbrev pub entry_of : HostReport → Bytes → Option Entry
entry_of FeatureData bytes =
    if slice_index bytes 1 == 0 then Some (record { layer = slice_index bytes 2; key = slice_index bytes 3 }) else None
entry_of _ bytes = None

-- the entry that is selected by the report that a call took, if it took one that selects
abbrev pub entry_in_report : Option SentReport → Option Entry
entry_in_report taken = option_and_then (λ sent. entry_of sent.report sent.bytes) taken

-- the selected entry: that of the latest such report since the start, else key 0 of layer 0
unfoldable pub selected : List Call → Entry
selected [] = record { layer = 0; key = 0 }
selected (call ∷ before) = unwrap_or (entry_in_report (report_taken before call)) (selected before)

-- the effect of a request without data; none of one that is refused or has data
abbrev pub effect_set : Result Transfer Why → Effect
effect_set (Ok (Sets effect)) = effect
effect_set _ = Nothing

-- what SET_IDLE and SET_PROTOCOL ask for (HID 1.11 sections 7.2.4 and 7.2.6), by wValue
abbrev pub effect_of_request : SetupFields → Effect
effect_of_request request =
    if (request.kind == 0x21) && (request.code == 0x0A)
    then effect_set (named UnknownReport (idle_effects (request.value / 256)) (request.value % 256))
    else (if (request.kind == 0x21) && (request.code == 0x0B) then effect_set (named BadProtocol protocol_effects request.value)
    else Nothing)

-- what a SETUP packet asks for by SET_IDLE or SET_PROTOCOL, if there is one
unfoldable pub effect_asked : Option Bytes → Effect
effect_asked setup = option_map_or (λ bytes. effect_of_request (request_of bytes)) setup Nothing

-- what an answer to an IN packet brings about: the empty packet of its status stage ends a request without data
abbrev pub effect_reported : List Call → EpAnswer → Effect
effect_reported before answer = if is_empty_packet answer then effect_asked (setup_of before) else Nothing

-- the protocol that an effect chooses, else the one before
abbrev pub protocol_then : Effect → Protocol → Protocol
protocol_then (SetProtocol chosen) protocol = chosen
protocol_then _ protocol = protocol

-- the protocol: the one chosen last since the start or the latest bus reset, else report protocol
unfoldable pub protocol_after : List Call → Protocol
protocol_after [] = Report
protocol_after (BusReset ∷ before) = Report
protocol_after (In answer ∷ before) = protocol_then (effect_reported before answer) (protocol_after before)
protocol_after (_ ∷ before) = protocol_after before
