-- Trusted: what the answers of `work` mean.
use Rattle.shapes.specs.Shapes.{Bytes}
use Rattle.std.specs.Prelude.{◌≡◌, ◌≢◌, ◌+◌, ◌≤◌, ◌↔◌, ℕ, [], ◌∷◌, ◌++◌, Option, None, Some, IsSome}
use Rattle.layers.specs.Codes.{DefaultCodes}
use Rattle.layers.specs.declared.command.Command.{Command}
use Rattle.layers.specs.Commands.{word_of}
use Rattle.layers.specs.Entries.{changed}
use Rattle.layers.specs.Keymaps.{HasEntries}
use Rattle.records.specs.declared.Slot.TheVariants.{Good}
use Rattle.records.specs.Slots.{encoded, slot_of}
use Rattle.flash_model.specs.Image.{slot_at}
use Rattle.flash_model.specs.Operations.{Programs, MayProgram, OnePage}
use Rattle.page_turnover.specs.Words.{words, IsActiveTail}
use Rattle.page_turnover.specs.Turn.{target_page}
use Rattle.page_turnover.specs.Steps.{Keeps, AttemptsNext}
use Rattle.page_turnover.specs.Operates.{Operates, MayOperate}
use Rattle.page_turnover.specs.Usable.{IsUsable}
use Rattle.keymap_store.specs.declared.store.Job.{Job}
use Rattle.keymap_store.specs.declared.store.Job.TheVariants.{Resting, Appending, Turning}
use Rattle.keymap_store.specs.declared.store.Work.{Work}
use Rattle.keymap_store.specs.declared.store.Work.TheVariants.{Idle, Working, Settled, Failed}
use Rattle.keymap_store.specs.Value.{StoreValue}
use Rattle.keymap_store.specs.Store.{working}
use Rattle.keymap_store.specs.representation.Store.{Mirrors}
use Rattle.keymap_store.specs.Next.{next_operation_of}
use Rattle.keymap_store.specs.Turnovers.{Turns, Wears}

-- the command works on, and the keymap is as before
pub record WorksOn (before after : StoreValue) : Type 0 where
  pub some : IsSome (working before.job)
  pub same_command : working after.job ≡ working before.job
  pub same_keymap : after.keymap ≡ before.keymap

-- the command that worked is gone, and the keymap is as before
pub record Fails (before after : StoreValue) : Type 0 where
  pub some : IsSome (working before.job)
  pub gone : working after.job ≡ None
  pub same_keymap : after.keymap ≡ before.keymap

-- no command works, and nothing changes
pub record Idles (old : Bytes) (before : StoreValue) (new : Bytes) (after : StoreValue) : Type 0 where
  pub none : working before.job ≡ None
  pub same_image : new ≡ old
  pub same_store : after ≡ before

-- the record of the command that worked is the last word
abbrev pub IsAppendedFor : Bytes → Option Command → Bytes → Type 0
IsAppendedFor old None new = ⊥
IsAppendedFor old (Some command) new = words new ≡ words old ++ word_of command ∷ []

-- that is so of the command that this job is for
abbrev pub IsAppended : Bytes → Job → Bytes → Type 0
IsAppended old job new = IsAppendedFor old (working job) new

-- the record is programmed into the tail slot of the active page
pub record IsPlacedAt (old : Bytes) (command : Command) (new : Bytes) : Type 0 where
  pub page : ℕ
  pub tail : ℕ
  pub place : IsActiveTail old page tail
  pub programs : Programs old page tail (encoded (word_of command)) new

-- the record of the command that worked is programmed so
abbrev pub IsPlacedFor : Bytes → Option Command → Bytes → Type 0
IsPlacedFor old None new = ⊥
IsPlacedFor old (Some command) new = IsPlacedAt old command new

-- that is so of the command that this job is for
abbrev pub IsPlaced : Bytes → Job → Bytes → Type 0
IsPlaced old job new = IsPlacedFor old (working job) new

-- the record's program was torn, and the slot does not read as the record
pub record IsTornAt (old : Bytes) (command : Command) (new : Bytes) : Type 0 where
  pub page : ℕ
  pub tail : ℕ
  pub place : IsActiveTail old page tail
  pub torn : MayProgram old page tail (encoded (word_of command)) new
  pub unread : slot_of (slot_at new page tail) ≡ Good (word_of command) → ⊥

-- a fault where the command had room leaves its record torn; one in a compaction leaves all pages but the target
abbrev pub FailsFor : Bytes → Job → Bytes → Type 0
FailsFor old Resting new = ⊥
FailsFor old (Appending command) new = IsTornAt old command new
FailsFor old (Turning command from) new = OnePage old (target_page old) new

-- a call that answers Working leaves one operation less to do, Settled is the answer to the last one, and Idle to none
pub record CountsDown (work : Work) (before after : ℕ) : Type 0 where
  pub none : (work ≡ Idle) ↔ (before ≡ 0)
  pub fewer : work ≡ Working → after + 1 ≡ before
  pub last : work ≡ Settled → before ≡ 1
  pub few : before ≤ 387

module _ (defaults : DefaultCodes) where
  -- the keymap is changed by the command that worked
  pub record Settles (before after : StoreValue) : Type 0 where
    pub command : Command
    pub was : working before.job ≡ Some command
    pub done : working after.job ≡ None
    pub changes : (entries : ℕ → ℕ → ℕ) → HasEntries entries before.keymap → HasEntries (changed defaults entries (command ∷ [])) after.keymap

  -- what each answer means for the command and the keymap
  abbrev pub WorksAs : Bytes → StoreValue → Work → Bytes → StoreValue → Type 0
  WorksAs old before Idle new after = Idles old before new after
  WorksAs old before Working new after = WorksOn before after
  WorksAs old before Settled new after = Settles before after
  WorksAs old before Failed new after = Fails before after

  -- what each answer says of the flash: a step of a compaction, the record as the last word in the tail slot, or a fault after which
  -- words, format and active page are as before; and what the operation does to the active page
  pub record WritesAs (old : Bytes) (job : Job) (work : Work) (new : Bytes) : Type 0 where
    pub turns : work ≡ Working → Turns defaults old new
    pub appended : work ≡ Settled → IsAppended old job new
    pub placed : work ≡ Settled → IsPlaced old job new
    pub kept : work ≡ Failed → Keeps old new
    pub fails : work ≡ Failed → FailsFor old job new
    pub wears : work ≢ Idle → Wears defaults old new

  -- what a call of `work` leaves of the flash and of the store
  pub record WorkLeaves (old : Bytes) (before : StoreValue) (work : Work) (new : Bytes) (after : StoreValue) : Type 0 where
    -- the keymap is that of the flash's image again
    pub mirrors : Mirrors defaults new after
    -- what the answer means for the command and the keymap
    pub works : WorksAs old before work new after
    -- the operation that was next is made; Failed exactly where it does not read as intended
    pub attempts : AttemptsNext (next_operation_of defaults old before) old (work ≡ Idle) (work ≡ Failed) new
    -- what the answer says of the flash
    pub writes : WritesAs old before.job work new
    pub operates : work ≢ Idle → work ≢ Failed → Operates old new
    pub torn : work ≡ Failed → MayOperate old new
    -- no slot 0 becomes unsound
    pub sound : IsUsable old → IsUsable new
