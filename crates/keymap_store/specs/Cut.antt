-- Trusted where this crate is called: what the operation that a store makes next leaves, whole or torn: by a fault, or by
-- a cut of the power inside it.
use Rattle.shapes.specs.Shapes.{Bytes}
use Rattle.std.specs.Prelude.{◌≡◌, [], ◌∷◌}
use Rattle.layers.specs.Codes.{DefaultCodes}
use Rattle.layers.specs.declared.command.Command.{Command}
use Rattle.layers.specs.Entries.{changed}
use Rattle.page_turnover.specs.declared.operation.Operation.{Operation}
use Rattle.page_turnover.specs.Next.{ReadsBack}
use Rattle.page_turnover.specs.Operates.{MayOperate}
use Rattle.page_turnover.specs.Usable.{IsUsable}
use Rattle.keymap_store.specs.declared.store.Job.{Job}
use Rattle.keymap_store.specs.declared.store.Job.TheVariants.{Appending}
use Rattle.keymap_store.specs.Keymap.{entries_of, SameEntries}
use Rattle.keymap_store.specs.Value.{StoreValue}
use Rattle.keymap_store.specs.Turnovers.{Wears}

-- the operation programmed the record of this command, which is there as a whole
abbrev pub IsRecorded : Job → Operation → Bytes → Command → Type 0
IsRecorded job operation new command = (job ≡ Appending command) × ReadsBack operation new

module _ (defaults : DefaultCodes) where
  -- the keymap is changed by the command that works where its record is there as a whole, and else it is as before
  pub data KeymapAfter (old : Bytes) (job : Job) (operation : Operation) (new : Bytes) : Type 0 where
    recorded : (command : Command) → IsRecorded job operation new command → SameEntries (entries_of defaults new) (changed defaults (entries_of defaults old) (command ∷ [])) → KeymapAfter old job operation new
    as_before : ((command : Command) → IsRecorded job operation new command → ⊥) → SameEntries (entries_of defaults new) (entries_of defaults old) → KeymapAfter old job operation new

  -- what the operation that is next leaves of the flash and of the keymap: all slots 0 are sound, and of the active page at
  -- most the tail slot is touched, unless another page becomes the active one
  pub record CutLeaves (old : Bytes) (store : StoreValue) (operation : Operation) (new : Bytes) : Type 0 where
    pub operates : MayOperate old new
    pub usable : IsUsable new
    pub keymap : KeymapAfter old store.job operation new
    pub wears : Wears defaults old new
