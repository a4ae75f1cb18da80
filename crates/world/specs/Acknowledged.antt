-- Trusted: what the host was told is stored, and which codes may stand in an entry.
use Rattle.std.specs.Prelude.{◌≡◌, ℕ, ◌<◌, ◌⊎◌, Option, None, Some, List, [], ◌∷◌, ◌++◌}
use Rattle.flash_model.specs.Sim.{SimValue}
use Rattle.layers.specs.Codes.{layers, keys, DefaultCodes}
use Rattle.layers.specs.Entries.{written}
use Rattle.layers.specs.declared.command.Command.{Command}
use Rattle.keyboard.specs.Acknowledged.{DoesNotWrite}
use Rattle.keyboard.specs.Calls.{Call, SetUp, BusReset, keymap}
use Rattle.keyboard.specs.Commands.{Accepted, accepts, accepted}
use Rattle.keyboard.specs.Fate.{Fate, works, settled}
use Rattle.world.specs.declared.event.Event.TheVariants.{InPacket}
use Rattle.world.specs.declared.event.Answer.TheVariants.{Packet}
use Rattle.world.specs.Kinds.{Step, Kind, starts, calls, kind}
use Rattle.world.specs.History.{Session, session, image_after}

-- the command that a step accepts, by the calls of its session before it
abbrev pub accepts_by : Kind → List Call → Option Command
accepts_by (calls call) past = accepts past call
accepts_by _ past = None

-- the command that a step accepts on top of a history
abbrev pub accepts_here : SimValue → List Step → Step → Option Command
accepts_here start before step = accepts_by (kind step) (session start before).past

-- a step begins no other transfer and no other session
abbrev pub GoesOn : Kind → Type 0
GoesOn starts = ⊥
GoesOn (calls (SetUp bytes)) = ⊥
GoesOn (calls BusReset) = ⊥
GoesOn _ = Unit {0}

-- none of these steps begins one
abbrev pub SameTransfer : List Step → Type 0
SameTransfer [] = Unit {0}
SameTransfer (step ∷ before) = GoesOn (kind step) × SameTransfer before

-- the codes that may stand in an entry after a command that writes this, by what became of it: once it is settled its code
-- alone; while it works, and where it failed, those from before
abbrev pub once_settled : Fate → Option ℕ → List ℕ → List ℕ
once_settled settled (Some code) codes = code ∷ []
once_settled _ _ codes = codes

-- a cut that catches a command while it works adds its code to those that may stand there
abbrev pub once_caught : Fate → Option ℕ → List ℕ → List ℕ
once_caught works (Some code) codes = code ∷ codes
once_caught _ _ codes = codes

-- a code is one of these
abbrev pub IsOneOf : ℕ → List ℕ → Type 0
IsOneOf code [] = ⊥
IsOneOf code (first ∷ others) = (code ≡ first) ⊎ IsOneOf code others

module _ (defaults : DefaultCodes) where
  -- none of the commands that these steps, newest first, accepted on top of a past writes the entry
  abbrev pub NoneAcceptedWrites : SimValue → List Step → List Step → ℕ → ℕ → Type 0
  NoneAcceptedWrites start [] past layer key = Unit {0}
  NoneAcceptedWrites start (step ∷ before) past layer key =
      DoesNotWrite defaults layer key (accepts_here start (before ++ past) step) × NoneAcceptedWrites start before past layer key

  -- a command that gives the entry this code was accepted, an IN packet of its transfer was answered by the empty packet, and
  -- no command was accepted since that would write the entry, not even one that failed; whatever else came: other transfers,
  -- flash work, faults, resets, power cuts
  pub record IsAcknowledged (start : SimValue) (history : List Step) (layer key code : ℕ) : Type 0 where
    pub in_layers : layer < layers
    pub in_keys : key < keys
    pub before : List Step
    pub packet : Step
    pub between : List Step
    pub status : Step
    pub after : List Step
    pub history_is : history ≡ after ++ status ∷ between ++ packet ∷ before
    pub command : Command
    pub accepted : accepts_here start before packet ≡ Some command
    pub writes : written defaults command layer key ≡ Some code
    pub same_transfer : SameTransfer between
    pub reported : (status.event ≡ InPacket) × (status.answer ≡ Packet (record { items = [] }))
    pub not_since : NoneAcceptedWrites start (after ++ status ∷ between) (packet ∷ before) layer key

  -- what the host was told is stored is what the flash says
  abbrev pub KeepsAcknowledged : SimValue → List Step → Type 0
  KeepsAcknowledged start history =
      (layer key code : ℕ) → IsAcknowledged start history layer key code → keymap defaults (image_after start history) layer key ≡ code

  -- so after these commands, in order
  abbrev pub codes_after : ℕ → ℕ → List ℕ → List Accepted → List ℕ
  codes_after layer key codes [] = codes
  codes_after layer key codes (one ∷ later) = codes_after layer key (once_settled one.fate (written defaults one.command layer key) codes) later

  abbrev pub codes_caught : ℕ → ℕ → List ℕ → List Accepted → List ℕ
  codes_caught layer key codes [] = codes
  codes_caught layer key codes (one ∷ later) = codes_caught layer key (once_caught one.fate (written defaults one.command layer key) codes) later

  -- those of a session, by those that may stand there at its start
  abbrev pub session_codes : Session → ℕ → ℕ → List ℕ → List ℕ
  session_codes now layer key codes = codes_after layer key codes (accepted defaults now.first now.past)

  -- after a step of this kind, at the start of the session that is then under way
  abbrev pub start_codes : Kind → Session → ℕ → ℕ → List ℕ → List ℕ
  start_codes starts before layer key codes = codes_caught layer key (session_codes before layer key codes) (accepted defaults before.first before.past)
  start_codes _ before layer key codes = codes

  -- the codes that may stand in an entry at the latest start, over all sessions: of the first one what the flash holds
  abbrev pub codes_at_start : SimValue → List Step → ℕ → ℕ → List ℕ
  codes_at_start start [] layer key = keymap defaults start.image layer key ∷ []
  codes_at_start start (step ∷ before) layer key = start_codes (kind step) (session start before) layer key (codes_at_start start before layer key)

  -- those that may stand there now
  abbrev pub codes_now : SimValue → List Step → ℕ → ℕ → List ℕ
  codes_now start history layer key = session_codes (session start history) layer key (codes_at_start start history layer key)

  -- what the host was told is stored is there while no later command writes the entry; and each entry holds the code of the
  -- latest settled command that writes it, reported or not, or of one that a cut caught since
  pub record KeepsStored (start : SimValue) (history : List Step) : Type 0 where
    pub reported : KeepsAcknowledged start history
    pub allowed : (layer key : ℕ) → layer < layers → key < keys
        → IsOneOf (keymap defaults (image_after start history) layer key) (codes_now start history layer key)
