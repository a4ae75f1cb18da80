-- Trusted: what is printed of an answer, and of a fault.
use Rattle.shapes.specs.Shapes.{Bytes, UsageList}
use Rattle.std.specs.Prelude.{ℕ, ◌/◌, ◌%◌, [], ◌∷◌, ◌++◌, codes}
use Rattle.std.specs.List.{flat_map}
use Rattle.std.specs.Fmt.{decimal}
use Rattle.text_io.specs.Digits.{in_hex, word_in_hex}
use Rattle.world.specs.declared.event.Answer.{Answer}
use Rattle.world.specs.declared.event.Answer.TheVariants.{Done, Sent, Ack, Nak, Packet, Stall, Worked, Restarted, EntryIs, SlotIs, NoSlot, LedsAre}
use Rattle.host.specs.declared.reading.Reading.{Reading}
use Rattle.host.specs.declared.reading.Reading.TheVariants.{Unread, NoMemory, Usages}
use Rattle.kbsim.specs.declared.outcome.Outcome.{Outcome}
use Rattle.kbsim.specs.declared.outcome.Outcome.TheVariants.{Answered, Fetched}
use Rattle.control_ep.specs.Reasons.{number_of}
use Rattle.keymap_store.specs.declared.store.Work.{Work}
use Rattle.keymap_store.specs.declared.store.Work.TheVariants as work
use Rattle.script.specs.declared.fault.LineFault.{LineFault}
use Rattle.script.specs.declared.fault.LineFault.TheVariants.{UnknownWord, WrongWords, BadNumber, BadHex}
use Rattle.kbsim.specs.declared.fault.RunError.{RunError}
use Rattle.kbsim.specs.declared.fault.RunError.TheVariants as error

-- a step of the flash work
abbrev pub outcome_name : Work → Bytes
outcome_name work.Idle = codes "idle"
outcome_name work.Working = codes "working"
outcome_name work.Settled = codes "settled"
outcome_name work.Failed = codes "failed"

-- a packet's bytes, or a dash where there are none
abbrev pub shown_packet : Bytes → Bytes
shown_packet [] = codes "-"
shown_packet (byte ∷ bytes) = in_hex (byte ∷ bytes)

-- usages, each after a space: its page and its number on that page
unfoldable pub shown_usages : UsageList → Bytes
shown_usages usages = flat_map (λ usage. 32 ∷ word_in_hex usage) usages

-- the usages that the host reads in a report, or that there are none
abbrev pub shown_read : Bytes → Bytes
shown_read [] = codes " none"
shown_read (usage ∷ usages) = shown_usages (usage ∷ usages)

-- what the host makes of a report. A line whose reading was refused memory prints none
unfoldable pub shown_reading : Reading → Bytes
shown_reading Unread = codes "unread"
shown_reading NoMemory = codes "no memory"
shown_reading (Usages usages) = codes "read" ++ shown_read usages

-- an answer; a code is shown with its high byte first
unfoldable pub shown : Answer → Bytes
shown Done = codes "ok"
shown (Sent bytes reading) = codes "report " ++ (in_hex bytes.items ++ (32 ∷ shown_reading reading))
shown Ack = codes "ack"
shown Nak = codes "nak"
shown (Packet packet) = codes "data " ++ shown_packet packet.items
shown (Stall why) = codes "stall " ++ decimal (number_of why)
shown (Worked work) = outcome_name work
shown Restarted = codes "restart"
shown (EntryIs code) = in_hex (code / 256 ∷ code % 256 ∷ [])
shown (SlotIs bytes) = in_hex bytes
shown NoSlot = codes "no slot"
shown (LedsAre leds) = in_hex (leds ∷ [])

-- what a line prints: an answer, or how many bytes of the report descriptor came
abbrev pub shown_outcome : Outcome → Bytes
shown_outcome (Answered answer) = shown answer
shown_outcome (Fetched count) = codes "fetched " ++ decimal count

-- the line of an outcome: the number of the script's line, a space, the outcome
abbrev pub printed_line : ℕ → Outcome → Bytes
printed_line number outcome = decimal number ++ (32 ∷ (shown_outcome outcome ++ 10 ∷ []))

abbrev pub fault_name : LineFault → Bytes
fault_name UnknownWord = codes "unknown word"
fault_name WrongWords = codes "wrong words"
fault_name BadNumber = codes "bad number"
fault_name BadHex = codes "bad hex"

-- the line of a fault; nothing is printed of a page count, and nothing after the output failed
abbrev pub fault_line : RunError → Bytes
fault_line (error.Line number fault) = codes "fault line " ++ (decimal number ++ (codes ": " ++ (fault_name fault ++ 10 ∷ [])))
fault_line error.TooLong = codes "fault too long" ++ 10 ∷ []
fault_line error.Input = codes "fault input" ++ 10 ∷ []
fault_line error.Image = codes "fault image" ++ 10 ∷ []
fault_line error.Memory = codes "fault memory" ++ 10 ∷ []
fault_line error.PageCount = []
fault_line error.Output = []
