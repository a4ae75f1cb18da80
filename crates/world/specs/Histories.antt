-- Trusted: histories that break the guarantee, newest step first, on a flash without a page.
use Rattle.shapes.specs.Shapes.{Bytes}
use Rattle.std.specs.Prelude.{None, false, List, [], ◌∷◌}
use Rattle.flash_model.specs.Sim.{SimValue}
use Rattle.keymap_store.specs.declared.store.Work.TheVariants.{Settled}
use Rattle.world.specs.declared.event.Answer.{Answer}
use Rattle.world.specs.declared.event.Answer.TheVariants.{Ack, Packet, Worked, Restarted}
use Rattle.world.specs.declared.event.Event.{Event}
use Rattle.world.specs.declared.event.Event.TheVariants.{Setup, OutPacket, InPacket, Work, Cut}
use Rattle.world.specs.Kinds.{Step}

-- a flash without a page: each entry is the default
abbrev pub blank : SimValue
blank = record { image = []; armed = None; operations = 0; faults = 0 }

-- an event with its answer, which leaves that flash
abbrev pub step : Event → Answer → Step
step event answer = record { event = event; answer = answer; flash = blank; refused = false }

-- a command that sets entry 0 0 to 0005h is accepted
abbrev pub set_feature : Bytes
set_feature = 0x21 ∷ 0x09 ∷ 0x03 ∷ 0x03 ∷ 0x00 ∷ 0x00 ∷ 0x06 ∷ 0x00 ∷ []

abbrev pub set_report : Bytes
set_report = 3 ∷ 1 ∷ 0 ∷ 0 ∷ 5 ∷ 0 ∷ []

abbrev pub one_accepted : List Step
one_accepted = step (OutPacket (record { items = set_report })) Ack ∷ step (Setup set_feature) Ack ∷ []

-- and the host is told at once that it is stored
abbrev pub reported_but_not_stored : List Step
reported_but_not_stored = step InPacket (Packet (record { items = [] })) ∷ one_accepted

-- it is settled, and the power is cut: the flash has no record of it
abbrev pub settled_and_lost : List Step
settled_and_lost = step Cut Restarted ∷ step Work (Worked Settled) ∷ one_accepted
