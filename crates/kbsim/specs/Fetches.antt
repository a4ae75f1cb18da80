-- Trusted: a whole transfer of the report descriptor (USB 2.0 section 8.5.3).
use Rattle.shapes.specs.Shapes.{Bytes}
use Rattle.std.specs.Prelude.{◌≡◌, ◌≢◌, ℕ, ◌+◌, ◌*◌, ◌<◌, ◌⊎◌, List, [], ◌∷◌, ◌++◌, length}
use Rattle.world.specs.declared.event.Event.TheVariants as event
use Rattle.world.specs.declared.event.Answer.{Answer}
use Rattle.world.specs.declared.event.Answer.TheVariants.{Ack, Packet}
use Rattle.world.specs.Kinds.{Step}

-- the SETUP packet that asks for 255 bytes of the report descriptor (HID 1.11 section 7.1.1)
abbrev pub get_report_descriptor : Bytes
get_report_descriptor = 0x81 ∷ 0x06 ∷ 0x00 ∷ 0x22 ∷ 0x00 ∷ 0x00 ∷ 0xFF ∷ 0x00 ∷ []

-- an IN packet that was answered by these bytes
abbrev pub Gives : Bytes → Step → Type 0
Gives packet step = (step.event ≡ event.InPacket) × (step.answer ≡ Packet (record { items = packet }))

-- IN packets that were each answered by eight bytes
abbrev pub AllFull : List Step → Type 0
AllFull [] = Unit {0}
AllFull (step ∷ before) = ((packet : Bytes) × Gives packet step × (length packet ≡ 8)) × AllFull before

-- the SETUP packet, and full packets after it, newest first
pub record Gathers (full steps : List Step) : Type 0 where
  pub setup : Step
  pub steps_are : steps ≡ full ++ setup ∷ []
  pub setup_is : setup.event ≡ event.Setup get_report_descriptor
  pub all : AllFull full

-- then a packet of fewer bytes: so many came in all
pub record IsGathered (count : ℕ) (steps : List Step) : Type 0 where
  pub last : Step
  pub full : List Step
  pub before : List Step
  pub packet : Bytes
  pub steps_are : steps ≡ last ∷ before
  pub gathers : Gathers full before
  pub gives : Gives packet last
  pub short : length packet < 8
  pub count_is : count ≡ 8 * length full + length packet

-- then an empty OUT packet, which was acknowledged
pub record IsFetched (count : ℕ) (steps : List Step) : Type 0 where
  pub close : Step
  pub before : List Step
  pub steps_are : steps ≡ close ∷ before
  pub gathered : IsGathered count before
  pub close_is : close.event ≡ event.OutPacket (record { items = [] })
  pub taken : close.answer ≡ Ack

-- or was answered otherwise
pub record IsUnclosed (answer : Answer) (steps : List Step) : Type 0 where
  pub close : Step
  pub before : List Step
  pub count : ℕ
  pub steps_are : steps ≡ close ∷ before
  pub gathered : IsGathered count before
  pub close_is : close.event ≡ event.OutPacket (record { items = [] })
  pub refused : close.answer ≢ Ack
  pub shows : answer ≡ close.answer

-- or an IN packet was answered by no packet of data
pub record IsCutShort (answer : Answer) (steps : List Step) : Type 0 where
  pub last : Step
  pub full : List Step
  pub before : List Step
  pub steps_are : steps ≡ last ∷ before
  pub gathers : Gathers full before
  pub last_is : last.event ≡ event.InPacket
  pub other : (packet : Bytes) → last.answer ≢ Packet (record { items = packet })
  pub shows : answer ≡ last.answer

abbrev pub IsUnfetched : Answer → List Step → Type 0
IsUnfetched answer steps = IsCutShort answer steps ⊎ IsUnclosed answer steps
