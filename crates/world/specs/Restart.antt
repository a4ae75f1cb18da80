-- Trusted: what a restart may leave of the keymap, and what a look at it shows.
use Rattle.std.specs.Prelude.{◌≡◌, ◌≢◌, ℕ, ◌<◌, List, [], ◌∷◌, ◌++◌}
use Rattle.flash_model.specs.Sim.{SimValue}
use Rattle.layers.specs.Codes.{layers, keys, DefaultCodes}
use Rattle.layers.specs.Entries.{changed}
use Rattle.layers.specs.declared.command.Command.{Command}
use Rattle.keymap_store.specs.Keymap.{SameEntries}
use Rattle.keyboard.specs.Acknowledged.{IsConfirmed, SettledAfter, IsSettled}
use Rattle.keyboard.specs.Calls.{Call, keymap}
use Rattle.keyboard.specs.Commands.{accepted, accepted_before, settled_of, standing_of, commands_of}
use Rattle.keyboard.specs.Restart.{RestartsLegally}
use Rattle.world.specs.declared.event.Event.TheVariants.{Entry}
use Rattle.world.specs.declared.event.Answer.TheVariants.{EntryIs}
use Rattle.world.specs.Kinds.{Step, starts, kind}
use Rattle.world.specs.History.{session, EachStep, EachPoint}

module _ (defaults : DefaultCodes) where
  -- what a start finds in the flash, after a cut between two operations or inside one, is legal by the session before
  abbrev pub StartsLegally : SimValue → List Step → Step → Type 0
  StartsLegally start before step =
      kind step ≡ starts → RestartsLegally defaults (session start before).first (session start before).past step.flash.image

  -- each command of the session that the host was told is stored is settled: the prefix that a legal restart keeps has it
  abbrev pub ConfirmsSettled : SimValue → List Step → Type 0
  ConfirmsSettled start past =
      (before : List Call) (command : Command) → IsConfirmed (session start past).past before command
      → IsSettled defaults (session start past).first (session start past).past before command

  -- an entry is that of the session's first keymap changed by the settled commands, in order
  abbrev pub ShowsSettled : SimValue → List Step → Step → Type 0
  ShowsSettled start before step =
      (layer key : ℕ) → layer < layers → key < keys → step.event ≡ Entry layer key
      → step.answer ≡ EntryIs (changed defaults (keymap defaults (session start before).first) (settled_of (accepted defaults (session start before).first (session start before).past)) layer key)

  -- where a start ends a session, the prefix of its commands that it keeps, whichever fits what it finds, has each command that
  -- the host was told is stored, at its place
  abbrev pub StartsWithConfirmed : SimValue → List Step → Step → Type 0
  StartsWithConfirmed start before step =
      kind step ≡ starts → (earlier : List Call) (command : Command) → IsConfirmed (session start before).past earlier command
      → (settled : IsSettled defaults (session start before).first (session start before).past earlier command)
      × ((restart : RestartsLegally defaults (session start before).first (session start before).past step.flash.image)
      → SettledAfter (standing_of (accepted_before defaults (session start before).first settled.since earlier)) command restart.kept)

  -- these are all commands that the starts of a history kept, in order: of each session that ended, the prefix of a legal restart
  pub data AllKept (start : SimValue) : List Step → List Command → Type 0 where
    at_first : AllKept start [] []
    goes_on : (step : Step) (before : List Step) (kept : List Command) → kind step ≢ starts → AllKept start before kept → AllKept start (step ∷ before) kept
    starts_anew : (step : Step) (before : List Step) (kept : List Command) → kind step ≡ starts
        → (restart : RestartsLegally defaults (session start before).first (session start before).past step.flash.image)
        → AllKept start before kept → AllKept start (step ∷ before) (kept ++ commands_of restart.kept)

  -- the keymap that the latest start found is the first one changed by all that the starts so far kept, in order
  pub record StartsChanged (start : SimValue) (history : List Step) : Type 0 where
    pub kept : List Command
    pub all : AllKept start history kept
    pub changed_by : SameEntries (keymap defaults (session start history).first) (changed defaults (keymap defaults start.image) kept)

  -- each command that the host was told is stored is settled; the start that ends its session keeps it; and the keymap of each
  -- start is the first one changed by all that was kept
  pub record KeepsConfirmed (start : SimValue) (history : List Step) : Type 0 where
    pub settled : EachPoint ConfirmsSettled start history
    pub kept : EachStep StartsWithConfirmed start history
    pub changed : EachPoint StartsChanged start history
