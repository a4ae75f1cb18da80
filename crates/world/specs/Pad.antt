-- Trusted: default codes of a maker, and histories of a keyboard with them, on a blank flash.
use Rattle.shapes.specs.Shapes.{Bytes}
use Rattle.std.specs.Prelude.{◌≡◌, ℕ, ◌==◌, ◌&&◌, ◌*◌, Bool, true, false, None, refl, if◌then◌else◌, List, [], ◌∷◌, replicate}
use Rattle.flash_model.specs.declared.TheConstants.{PAGE_BYTES}
use Rattle.flash_model.specs.Sim.{SimValue}
use Rattle.debounce.specs.declared.Scan.{Scan}
use Rattle.host.specs.declared.reading.Reading.TheVariants.{Usages}
use Rattle.layers.specs.Codes.{keys, none, is_code, all_below, DefaultCodes}
use Rattle.world.specs.declared.event.Answer.{Answer}
use Rattle.world.specs.declared.event.Answer.TheVariants.{Done, Ack, Packet, Sent, EntryIs}
use Rattle.world.specs.declared.event.Event.{Event}
use Rattle.world.specs.declared.event.Event.TheVariants.{Scan as Scanned, Setup, InPacket, Poll, Entry}
use Rattle.world.specs.Kinds.{Step}

-- key 0 of layer 0 types the letter b, and every other key does nothing
abbrev pub code_if_first : Bool → ℕ → ℕ
code_if_first first key = if first && (key == 0) then 0x0005 else none

-- each of them is a code
pub are_codes : (first : Bool) → all_below (λ key. is_code (code_if_first first key)) keys ≡ true
unfolding all_below
are_codes true = refl
are_codes false = refl

-- the codes
abbrev pub pad : DefaultCodes
pad = record { at_first = λ layer. code_if_first (layer == 0); are_codes = λ layer. are_codes (layer == 0) }

-- a flash of blank pages, as `SimFlash::blank` makes it
abbrev pub blank_pages : ℕ → SimValue
blank_pages pages = record { image = replicate (PAGE_BYTES * pages) 255; armed = None; operations = 0; faults = 0 }

-- an event with its answer, which leaves that flash
abbrev pub on_blank : ℕ → Event → Answer → Step
on_blank pages event answer = record { event = event; answer = answer; flash = blank_pages pages; refused = false }

-- a look at the first entry shows its code
abbrev pub shown_at_first : ℕ → List Step
shown_at_first pages = on_blank pages (Entry 0 0) (EntryIs 0x0005) ∷ []

-- SET_PROTOCOL chooses boot protocol, and key 0 is down in five scans
abbrev pub set_boot : Bytes
set_boot = 0x21 ∷ 0x0B ∷ 0 ∷ 0 ∷ 0 ∷ 0 ∷ 0 ∷ 0 ∷ []

abbrev pub first_down : Scan
first_down = record { rows = 1 ∷ 0 ∷ 0 ∷ 0 ∷ 0 ∷ 0 ∷ [] }

abbrev pub five_scans : ℕ → List Step
five_scans pages =
    on_blank pages (Scanned first_down) Done ∷ on_blank pages (Scanned first_down) Done ∷ on_blank pages (Scanned first_down) Done
    ∷ on_blank pages (Scanned first_down) Done ∷ on_blank pages (Scanned first_down) Done
    ∷ on_blank pages InPacket (Packet (record { items = [] })) ∷ on_blank pages (Setup set_boot) Ack ∷ []

-- the poll sends a report in which the host reads that letter
abbrev pub report_of_b : Bytes
report_of_b = 0 ∷ 0 ∷ 0x05 ∷ 0 ∷ 0 ∷ 0 ∷ 0 ∷ 0 ∷ []

abbrev pub read_at_first : ℕ → List Step
read_at_first pages = on_blank pages Poll (Sent (record { items = report_of_b }) (Usages (0x70005 ∷ []))) ∷ five_scans pages
