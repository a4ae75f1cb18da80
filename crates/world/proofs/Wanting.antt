-- The host is refused memory only where it wants some.
use Rattle.std.proofs.lemmas.Grind.{common_steps}
use Rattle.std.proofs.Common.{◌≡◌, ℕ, Bool, true, false, Option, Some, None, List, [], ◌∷◌, arith}
use Rattle.flash_model.specs.Sim.{SimValue}
use Rattle.control_ep.specs.declared.answer.EpAnswer.{EpAnswer}
use Rattle.control_ep.specs.declared.answer.EpAnswer.TheVariants as ep
use Rattle.host.specs.Calls.{HostCall}
use Rattle.reports.specs.declared.Protocol.{Protocol}
use Rattle.world.specs.declared.event.Event.{Event}
use Rattle.world.specs.declared.event.Event.TheVariants.{InPacket, Poll}
use Rattle.world.specs.declared.event.Answer.{Answer}
use Rattle.world.specs.Kinds.{Step, as_answer}
use Rattle.world.specs.History.{Session, session, host_calls, flash_after, EachStep}
use Rattle.world.specs.Conforming.{Answered, IsAnswered, IsSent, MayRefuse}
use Rattle.world.specs.Memory.{WantsMemory, IsRefusedWhereWanted}
use Rattle.layers.specs.Codes.{DefaultCodes}

never : {A : Type 0} (refused : Bool) → refused ≡ false → refused ≡ true → A
never refused f t = cc

wanted_packet : (heard : List HostCall) (by_ep : EpAnswer) (answer : Answer) (refused : Bool) → answer ≡ as_answer by_ep → MayRefuse heard by_ep refused → refused ≡ true
    → WantsMemory heard InPacket answer
wanted_packet heard (ep.Packet packet) answer refused e m r = rw e (m r)
wanted_packet heard ep.Ack answer refused e m r = never refused m r
wanted_packet heard ep.Nak answer refused e m r = never refused m r
wanted_packet heard (ep.Stall why) answer refused e m r = never refused m r

wanted_report : (protocol : Protocol) (heard : List HostCall) (report : Option (List ℕ)) (answer : Answer) (refused : Bool) → IsSent protocol heard report answer refused → refused ≡ true
    → WantsMemory heard Poll answer
wanted_report protocol heard None answer refused (e, f) r = never refused f r
wanted_report protocol heard (Some bytes) answer refused (reading, e, reads, f) r = rw e tt

module _ (defaults : DefaultCodes) where
  wanted : (now : Session) (heard : List HostCall) (old : SimValue) (event : Event) (answer : Answer) (refused : Bool) (new : SimValue) → Answered defaults now heard old event answer refused new → refused ≡ true
      → WantsMemory heard event answer
  wanted now heard old event answer refused new a r = grind (arith, common_steps, wanted_packet, wanted_report, never)

  pub refused_where_wanted : (start : SimValue) (history : List Step) → EachStep (IsAnswered defaults) start history → EachStep IsRefusedWhereWanted start history
  refused_where_wanted start [] h = tt
  refused_where_wanted start (step ∷ before) h =
      (wanted (session start before) (host_calls before) (flash_after start before) step.event step.answer step.refused step.flash h.0, refused_where_wanted start before h.1)
