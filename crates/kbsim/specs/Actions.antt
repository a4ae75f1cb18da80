-- Trusted: the event of a line.
use Rattle.std.specs.Prelude.{◌≡◌}
use Rattle.script.specs.Masks.{WritesMask}
use Rattle.script.specs.declared.statement.Action.{Action}
use Rattle.script.specs.declared.statement.Action.TheVariants as action
use Rattle.world.specs.declared.event.Event.{Event}
use Rattle.world.specs.declared.event.Event.TheVariants as event

-- the event that a line of one event stands for
abbrev pub IsEventOf : Action → Event → Type 0
IsEventOf (action.Scan scan) e = e ≡ event.Scan scan
IsEventOf action.Poll e = e ≡ event.Poll
IsEventOf (action.Setup packet) e = e ≡ event.Setup packet
IsEventOf (action.Out packet) (event.OutPacket sent) = sent.items ≡ packet.items
IsEventOf (action.Out packet) e = ⊥
IsEventOf action.In e = e ≡ event.InPacket
IsEventOf action.Work e = e ≡ event.Work
IsEventOf (action.WorkFault word) (event.WorkFault mask) = WritesMask word mask.items
IsEventOf (action.WorkFault word) e = ⊥
IsEventOf action.Cut e = e ≡ event.Cut
IsEventOf (action.CutWork word) (event.CutInWork mask) = WritesMask word mask.items
IsEventOf (action.CutWork word) e = ⊥
IsEventOf action.Reset e = e ≡ event.BusReset
IsEventOf (action.Entry layer key) e = e ≡ event.Entry layer key
IsEventOf (action.Slot page slot) e = e ≡ event.SlotAt page slot
IsEventOf action.Leds e = e ≡ event.Leds
