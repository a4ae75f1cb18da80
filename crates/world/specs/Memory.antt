-- Trusted: which steps of a history the host wants memory for.
use Rattle.std.specs.Prelude.{◌≡◌, true, IsSome, List}
use Rattle.flash_model.specs.Sim.{SimValue}
use Rattle.host.specs.Calls.{HostCall}
use Rattle.host.specs.Kept.{gathering}
use Rattle.world.specs.declared.event.Event.{Event}
use Rattle.world.specs.declared.event.Event.TheVariants.{InPacket, Poll}
use Rattle.world.specs.declared.event.Answer.{Answer}
use Rattle.world.specs.declared.event.Answer.TheVariants.{Packet, Sent}
use Rattle.world.specs.Kinds.{Step}
use Rattle.world.specs.History.{host_calls}

-- the host wants memory for a packet of data while it gathers, and for a report that it reads; for nothing else
abbrev pub WantsMemory : List HostCall → Event → Answer → Type 0
WantsMemory heard InPacket (Packet packet) = IsSome (gathering heard)
WantsMemory heard Poll (Sent bytes reading) = Unit {0}
WantsMemory heard event answer = ⊥

-- the host was refused memory in no step but one that it wants some for
abbrev pub IsRefusedWhereWanted : SimValue → List Step → Step → Type 0
IsRefusedWhereWanted start before step = step.refused ≡ true → WantsMemory (host_calls before) step.event step.answer
