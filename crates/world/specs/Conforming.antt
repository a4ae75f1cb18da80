-- Trusted: what may come of each event, by what came before it.
use Rattle.shapes.specs.Shapes.{Bytes}
use Rattle.std.specs.Prelude.{◌≡◌, ℕ, ◌<◌, Bool, true, false, IsSome, Option, None, Some, List}
use Rattle.flash_model.specs.declared.TheConstants.{PAGE_SLOTS}
use Rattle.flash_model.specs.Image.{page_count, slot_at}
use Rattle.flash_model.specs.Operated.{IsOperated}
use Rattle.flash_model.specs.Sim.{SimValue}
use Rattle.reports.specs.declared.Protocol.{Protocol}
use Rattle.control_ep.specs.declared.answer.EpAnswer.{EpAnswer}
use Rattle.control_ep.specs.declared.answer.EpAnswer.TheVariants as ep
use Rattle.layers.specs.Codes.{DefaultCodes}
use Rattle.page_turnover.specs.Next.{on_flash}
use Rattle.keymap_store.specs.declared.store.Work.{Work as WorkAnswer}
use Rattle.keymap_store.specs.declared.store.Work.TheVariants.{Idle, Failed}
use Rattle.host.specs.declared.reading.Reading.{Reading}
use Rattle.host.specs.declared.reading.Reading.TheVariants.{NoMemory}
use Rattle.host.specs.Calls.{HostCall}
use Rattle.host.specs.Kept.{gathering}
use Rattle.host.specs.Reads.{text_by, Reads}
use Rattle.keyboard.specs.Calls.{Out, In, Polled, Worked as KeyboardWorked, keymap}
use Rattle.keyboard.specs.Effects.{leds_after, protocol_after}
use Rattle.keyboard.specs.Feature.{Where}
use Rattle.keyboard.specs.Conforming as keyboard
use Rattle.world.specs.declared.event.Event.{Event}
use Rattle.world.specs.declared.event.Event.TheVariants.{Scan, Setup, OutPacket, InPacket, Poll, Work, WorkFault, Cut, CutInWork, BusReset, Entry, SlotAt, Leds}
use Rattle.world.specs.declared.event.Answer.{Answer}
use Rattle.world.specs.declared.event.Answer.TheVariants.{Done, Ack, Nak, Sent, Worked, Restarted, EntryIs, SlotIs, NoSlot, LedsAre}
use Rattle.world.specs.Flash.{armed_by}
use Rattle.world.specs.Kinds.{Step, as_answer}
use Rattle.world.specs.History.{Session, session, host_calls, flash_after, EachStep}

-- the flash stays as it was, and the host was refused no memory
abbrev pub Untouched : SimValue → SimValue → Bool → Type 0
Untouched old new refused = (new ≡ old) × (refused ≡ false)

-- the host may be refused memory for a packet of data, while it gathers
abbrev pub MayRefuse : List HostCall → EpAnswer → Bool → Type 0
MayRefuse heard (ep.Packet packet) refused = refused ≡ true → IsSome (gathering heard)
MayRefuse heard _ refused = refused ≡ false

-- whether a reading says that memory was refused
abbrev pub is_no_memory : Reading → Bool
is_no_memory NoMemory = true
is_no_memory _ = false

-- what a poll is answered: NAK, or the report and what the host reads in it, in the protocol in force and by what it has
-- heard. The reading is NoMemory exactly where a growth was refused
abbrev pub IsSent : Protocol → List HostCall → Option Bytes → Answer → Bool → Type 0
IsSent protocol heard None answer refused = (answer ≡ Nak) × (refused ≡ false)
IsSent protocol heard (Some bytes) answer refused =
    (reading : Reading) × (answer ≡ Sent (record { items = bytes }) reading) × Reads (text_by protocol heard) bytes reading
    × (refused ≡ is_no_memory reading)

module _ (defaults : DefaultCodes) where
  -- a step of the flash work makes its operation on a flash that is armed in this way: the whole of it, or torn by the mask
  -- that is armed, if one is. Then both counts follow, and nothing is armed
  abbrev pub MakesOn : Session → SimValue → WorkAnswer → SimValue → Type 0
  MakesOn now armed work new =
      keyboard.MakesSuch defaults now.first now.past work new.image (λ operation. IsOperated armed (on_flash operation) new)

  -- what such a step makes of the flash: nothing, where it has nothing to do; else its operation. A command fails only where
  -- that was torn
  abbrev pub OperatedAs : Session → SimValue → SimValue → WorkAnswer → SimValue → Type 0
  OperatedAs now old armed Idle new = new ≡ old
  OperatedAs now old armed Failed new = MakesOn now armed Failed new × IsSome armed.armed
  OperatedAs now old armed work new = MakesOn now armed work new

  -- a step of the flash work: it comes to what the keyboard guarantees of it
  pub record WorksIn (now : Session) (old armed : SimValue) (work : WorkAnswer) (new : SimValue) : Type 0 where
    pub conforming : keyboard.IsAnswered defaults now.first now.past (KeyboardWorked work new.image)
    pub operated : OperatedAs now old armed work new

-- the bytes of a slot, or that there is none
abbrev pub SlotAnswer : Bytes → ℕ → ℕ → Answer → Type 0
SlotAnswer image page slot answer =
    Where ((page < page_count image) × (slot < PAGE_SLOTS)) (answer ≡ SlotIs (slot_at image page slot)) (answer ≡ NoSlot)

module _ (defaults : DefaultCodes) where
  -- what comes of an event in a session, to a host that has heard this, and the flash before and after it. A torn step of the
  -- flash work arms the flash by its mask, in place of what was armed before; a cut inside an operation is such a step, whose
  -- end nobody is told
  abbrev pub Answered : Session → List HostCall → SimValue → Event → Answer → Bool → SimValue → Type 0
  Answered now heard old (Scan scan) answer refused new = (answer ≡ Done) × Untouched old new refused
  Answered now heard old (Setup bytes) answer refused new = (answer ≡ Ack) × Untouched old new refused
  Answered now heard old (OutPacket packet) answer refused new =
      (by_ep : EpAnswer) × (answer ≡ as_answer by_ep) × keyboard.IsAnswered defaults now.first now.past (Out packet.items by_ep)
      × Untouched old new refused
  Answered now heard old InPacket answer refused new =
      (by_ep : EpAnswer) × (answer ≡ as_answer by_ep) × keyboard.IsAnswered defaults now.first now.past (In by_ep) × (new ≡ old)
      × MayRefuse heard by_ep refused
  Answered now heard old Poll answer refused new =
      (report : Option Bytes) × keyboard.IsAnswered defaults now.first now.past (Polled report) × (new ≡ old)
      × IsSent (protocol_after now.past) heard report answer refused
  Answered now heard old Work answer refused new =
      (work : WorkAnswer) × (answer ≡ Worked work) × WorksIn defaults now old old work new × (refused ≡ false)
  Answered now heard old (WorkFault mask) answer refused new =
      (work : WorkAnswer) × (answer ≡ Worked work) × WorksIn defaults now old (armed_by mask.items old) work new × (refused ≡ false)
  Answered now heard old Cut answer refused new = (answer ≡ Restarted) × Untouched old new refused
  Answered now heard old (CutInWork mask) answer refused new =
      (work : WorkAnswer) × (answer ≡ Restarted) × WorksIn defaults now old (armed_by mask.items old) work new × (refused ≡ false)
  Answered now heard old BusReset answer refused new = (answer ≡ Done) × Untouched old new refused
  Answered now heard old (Entry layer key) answer refused new =
      (answer ≡ EntryIs (keymap defaults old.image layer key)) × Untouched old new refused
  Answered now heard old (SlotAt page slot) answer refused new = SlotAnswer old.image page slot answer × Untouched old new refused
  Answered now heard old Leds answer refused new = (answer ≡ LedsAre (leds_after now.past)) × Untouched old new refused

  -- each event is answered by what came before it
  abbrev pub IsAnswered : SimValue → List Step → Step → Type 0
  IsAnswered start before step =
      Answered (session start before) (host_calls before) (flash_after start before) step.event step.answer step.refused step.flash

  -- each step of a history was answered so
  abbrev pub IsConforming : SimValue → List Step → Type 0
  IsConforming start history = EachStep IsAnswered start history
