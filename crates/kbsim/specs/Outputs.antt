-- Trusted: what the lines of a script do to the device, and what they print.
use Rattle.shapes.specs.Shapes.{Bytes}
use Rattle.std.specs.Prelude.{◌≡◌, ◌≢◌, ℕ, ◌*◌, ◌<◌, ◌/◌, ◌%◌, ◌⊎◌, List, [], ◌∷◌, ◌++◌, length, replicate, take, None, false}
use Rattle.std.specs.Int.NonZero.{non_zero_u16_get}
use Rattle.std.specs.List.{All}
use Rattle.std.specs.Str.Lines.{lines}
use Rattle.flash_model.specs.Image.{page_count}
use Rattle.flash_model.specs.Sim.{SimValue}
use Rattle.world.specs.declared.event.Event.{Event}
use Rattle.world.specs.declared.event.Event.TheVariants as event
use Rattle.world.specs.declared.event.Answer.{Answer}
use Rattle.world.specs.declared.event.Answer.TheVariants.{Ack, Packet, Worked}
use Rattle.layers.specs.Standard.{standard}
use Rattle.keymap_store.specs.declared.store.Work.TheVariants.{Working}
use Rattle.world.specs.Kinds.{Step}
use Rattle.world.specs.History.{flash_after}
use Rattle.world.specs.Promise.{Promise}
use Rattle.world.specs.Relation.{NoneRefused}
use Rattle.world.specs.representation.Relation.{Refines}
use Rattle.world.specs.representation.Value.{WorldValue}
use Rattle.kbsim.specs.Actions.{IsEventOf}
use Rattle.kbsim.specs.Fetches.{IsFetched, IsUnfetched}
use Rattle.kbsim.specs.Prints.{printed_line}
use Rattle.kbsim.specs.declared.outcome.Outcome.{Outcome}
use Rattle.kbsim.specs.declared.outcome.Outcome.TheVariants.{Answered, Fetched}
use Rattle.script.specs.Scripts.{Script}
use Rattle.script.specs.declared.read.Line.{Line}
use Rattle.script.specs.declared.statement.Statement.{Statement}
use Rattle.script.specs.declared.statement.Statement.TheVariants as statement

-- the SETUP packet of a feature report that carries a command
abbrev pub set_feature : Bytes
set_feature = 0x21 ∷ 0x09 ∷ 0x03 ∷ 0x03 ∷ 0x00 ∷ 0x00 ∷ 0x06 ∷ 0x00 ∷ []

-- the feature report that sets an entry: its ID, the operation, layer, key, and the code, low byte first
abbrev pub set_report : ℕ → ℕ → ℕ → Bytes
set_report layer key code = 3 ∷ 1 ∷ layer ∷ key ∷ code % 256 ∷ code / 256 ∷ []

-- steps of the flash work, newest first, that each needed more
abbrev pub AllWorking : List Step → Type 0
AllWorking [] = Unit {0}
AllWorking (step ∷ before) = (step.event ≡ event.Work) × (step.answer ≡ Worked Working) × AllWorking before

-- the flash work of a command, newest step first: a last step that did not need more, after steps that did
pub record IsFlashWork (steps : List Step) : Type 0 where
  pub last : Step
  pub before : List Step
  pub steps_are : steps ≡ last ∷ before
  pub last_is : last.event ≡ event.Work
  pub done : last.answer ≢ Worked Working
  pub needed : AllWorking before

-- what `set` prints of the status stage: the empty packet is a success
abbrev pub ShowsStatus : Answer → Answer → Type 0
ShowsStatus status shown =
    ((status ≡ Packet (record { items = [] })) × (shown ≡ Ack)) ⊎ ((status ≢ Packet (record { items = [] })) × (shown ≡ status))

-- a `set` whose report was not acknowledged
pub record IsRefusedSet (layer key code : ℕ) (steps : List Step) (answer : Answer) : Type 0 where
  pub setup : Step
  pub report : Step
  pub steps_are : steps ≡ report ∷ setup ∷ []
  pub setup_is : setup.event ≡ event.Setup set_feature
  pub report_is : report.event ≡ event.OutPacket (record { items = set_report layer key code })
  pub refused : report.answer ≢ Ack
  pub shows : answer ≡ report.answer

-- a `set` whose report was acknowledged
pub record IsTakenSet (layer key code : ℕ) (steps : List Step) (answer : Answer) : Type 0 where
  pub setup : Step
  pub report : Step
  pub work : List Step
  pub status : Step
  pub steps_are : steps ≡ status ∷ work ++ report ∷ setup ∷ []
  pub setup_is : setup.event ≡ event.Setup set_feature
  pub report_is : report.event ≡ event.OutPacket (record { items = set_report layer key code })
  pub taken : report.answer ≡ Ack
  pub worked : IsFlashWork work
  pub status_is : status.event ≡ event.InPacket
  pub shows : ShowsStatus status.answer answer

-- so many steps of one event, newest first; the answer is that of the newest
pub record IsRepeated (e : Event) (count : ℕ) (steps : List Step) (answer : Answer) : Type 0 where
  pub last : Step
  pub before : List Step
  pub steps_are : steps ≡ last ∷ before
  pub last_is : last.event ≡ e
  pub equal : All (λ (step : Step). step.event ≡ e) before
  pub count_is : length steps ≡ count
  pub shows : answer ≡ last.answer

-- the steps of a `fetch`: so many bytes came, or another answer did
abbrev pub FetchRuns : List Step → Outcome → Type 0
FetchRuns steps (Answered answer) = IsUnfetched answer steps
FetchRuns steps (Fetched count) = IsFetched count steps

-- the steps of a line, newest first, and what it prints
abbrev pub LineRuns : Statement → List Step → Outcome → Type 0
LineRuns (statement.One action) steps (Answered answer) =
    (step : Step) × (steps ≡ step ∷ []) × IsEventOf action step.event × (answer ≡ step.answer)
LineRuns (statement.Scans count scan) steps (Answered answer) = IsRepeated (event.Scan scan) (non_zero_u16_get count) steps answer
LineRuns (statement.Set layer key code) steps (Answered answer) =
    IsRefusedSet layer key code steps answer ⊎ IsTakenSet layer key code steps answer
LineRuns statement.Fetch steps outcome = FetchRuns steps outcome
LineRuns _ steps (Fetched count) = ⊥

-- the steps of lines that are run in order, newest first, and the text that they print, a line for each
abbrev pub Prints : List Line → List Step → Bytes → Type 0
Prints [] steps text = (steps ≡ []) × (text ≡ [])
Prints (line ∷ more) steps text =
    (first later : List Step) × (outcome : Outcome) × (rest : Bytes) × (steps ≡ later ++ first) × LineRuns line.statement first outcome
    × (text ≡ printed_line line.number outcome ++ rest) × Prints more later rest

-- a flash that holds these bytes: nothing was operated, and nothing is armed
abbrev pub holding : Bytes → SimValue
holding image = record { image = image; armed = None; operations = 0; faults = 0 }

-- a flash as it comes: all bits are set
abbrev pub blank : ℕ → SimValue
blank pages = holding (replicate (4096 * pages) 255)

-- the lines print this text, and leave this flash: run on a device that started on the flash `start`, they made a history of
-- which the guarantee holds, and in which the host was refused no memory
pub record IsRun (start : SimValue) (lines : List Line) (text : Bytes) (after : SimValue) : Type 0 where
  pub steps : List Step
  pub promise : Promise standard start steps
  pub none_refused : NoneRefused steps
  pub prints : Prints lines steps text
  pub leaves : after ≡ flash_after start steps

-- a script that is run on this flash prints this text, and leaves the flash `after`
pub record IsOutput (start : SimValue) (script text : Bytes) (after : SimValue) : Type 0 where
  pub said : List Line
  pub sound : Script (page_count start.image) 1 (lines script) said
  pub run : IsRun start said text after

-- the first lines of a sound script, and not all, print this text
pub record IsBegun (start : SimValue) (script text : Bytes) : Type 0 where
  pub said : List Line
  pub sound : Script (page_count start.image) 1 (lines script) said
  pub count : ℕ
  pub some_left : count < length said
  pub after : SimValue
  pub run : IsRun start (take count said) text after

-- from each history that the world stood for, it went on by steps, newest first, of which P holds, and in which the host
-- was refused no memory
abbrev pub GoesOn : (List Step → Type 0) → WorldValue → WorldValue → Type 0
GoesOn P old new =
    (start : SimValue) (past : List Step) → Refines standard start past old → (steps : List Step) × P steps × NoneRefused steps × Refines standard start (steps ++ past) new

-- the world took one event, and the host was refused no memory
abbrev pub Takes : Event → Answer → WorldValue → WorldValue → Type 0
Takes event answer old new =
    (start : SimValue) (past : List Step) → Refines standard start past old
    → Refines standard start (record { event = event; answer = answer; flash = new.flash; refused = false } ∷ past) new

-- the same, and these answers are that event's alone
abbrev pub IsPassed : Event → List Answer → WorldValue → WorldValue → Type 0
IsPassed event answers old new = (answer : Answer) × (answers ≡ answer ∷ []) × Takes event answer old new
