-- Trusted: what the host was told is stored.
use Rattle.shapes.specs.Shapes.{Bytes}
use Rattle.std.specs.Prelude.{◌≡◌, ℕ, ◌<◌, Option, None, Some, List, [], ◌∷◌, ◌++◌}
use Rattle.layers.specs.Codes.{layers, keys, DefaultCodes}
use Rattle.layers.specs.Entries.{written}
use Rattle.layers.specs.declared.command.Command.{Command}
use Rattle.control_ep.specs.declared.answer.EpAnswer.TheVariants.{Packet}
use Rattle.keyboard.specs.Calls.{Call, SetUp, In, BusReset, image_after, keymap}
use Rattle.keyboard.specs.Fate.{settled}
use Rattle.keyboard.specs.Commands.{Accepted, accepts, accepted, accepted_before}

-- an IN packet is answered by the empty packet, which ends the status stage: in the transfer of a command it tells the host that
-- the command is stored
abbrev pub confirmation : Call
confirmation = In (Packet (record { items = [] }))

-- the calls, newest first, begin no other transfer
abbrev pub SameTransfer : List Call → Type 0
SameTransfer [] = Unit {0}
SameTransfer (SetUp bytes ∷ before) = ⊥
SameTransfer (BusReset ∷ before) = ⊥
SameTransfer (_ ∷ before) = SameTransfer before

module _ (defaults : DefaultCodes) where
  -- a command does not write the entry, where there is one
  abbrev pub DoesNotWrite : ℕ → ℕ → Option Command → Type 0
  DoesNotWrite layer key None = Unit {0}
  DoesNotWrite layer key (Some command) = written defaults command layer key ≡ None

  -- none of the commands that these calls, newest first, accepted on top of a past writes the entry
  abbrev pub NoneAcceptedWrites : List Call → List Call → ℕ → ℕ → Type 0
  NoneAcceptedWrites [] past layer key = Unit {0}
  NoneAcceptedWrites (call ∷ before) past layer key =
      DoesNotWrite layer key (accepts (before ++ past) call) × NoneAcceptedWrites before past layer key

  -- a command that gives the entry this code was accepted, an IN packet of its transfer was answered by the empty packet,
  -- and no command was accepted since that would write the entry, not even one that failed; whatever else came
  pub record IsAcknowledgedInSession (past : List Call) (layer key code : ℕ) : Type 0 where
    pub in_layers : layer < layers
    pub in_keys : key < keys
    pub before : List Call
    pub packet : Call
    pub between : List Call
    pub after : List Call
    pub past_is : past ≡ after ++ confirmation ∷ between ++ packet ∷ before
    pub command : Command
    pub accepted : accepts before packet ≡ Some command
    pub writes : written defaults command layer key ≡ Some code
    pub same_transfer : SameTransfer between
    pub not_since : NoneAcceptedWrites (after ++ confirmation ∷ between) (packet ∷ before) layer key

  -- what the host was told is stored is what the flash says
  abbrev pub KeepsAcknowledged : Bytes → List Call → Type 0
  KeepsAcknowledged start past =
      (layer key code : ℕ) → IsAcknowledgedInSession past layer key code → keymap defaults (image_after start past) layer key ≡ code

-- the command that was accepted on top of these calls is confirmed: an IN packet of its transfer was answered by the empty packet
pub record IsConfirmed (past before : List Call) (command : Command) : Type 0 where
  pub packet : Call
  pub between : List Call
  pub after : List Call
  pub past_is : past ≡ after ++ confirmation ∷ between ++ packet ∷ before
  pub accepted : accepts before packet ≡ Some command
  pub same_transfer : SameTransfer between

-- of these commands, this one comes right after those before it, and is settled
pub record SettledAfter (earlier : List Accepted) (command : Command) (all : List Accepted) : Type 0 where
  pub later : List Accepted
  pub all_are : all ≡ earlier ++ record { command = command; fate = settled } ∷ later

module _ (defaults : DefaultCodes) where
  -- of the commands accepted in a session, the one that was accepted on top of these calls is settled: it comes right after
  -- those that the calls before it accepted
  pub record IsSettled (start : Bytes) (past before : List Call) (command : Command) : Type 0 where
    pub since : List Call
    pub past_is : past ≡ since ++ before
    pub settled_at : SettledAfter (accepted_before defaults start since before) command (accepted defaults start past)
