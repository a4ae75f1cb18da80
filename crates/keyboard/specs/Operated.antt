-- Trusted: what a step of the flash work makes of the flash while a command works: one operation, whole or torn.
use Rattle.shapes.specs.Shapes.{Bytes}
use Rattle.std.specs.Prelude.{◌≡◌, ◌⊎◌, ℕ, suc, ◌+◌, ◌^◌, ◌<◌, ◌≤◌, List, [], ◌∷◌, ◌++◌, length, slice_get, slice_index, Some}
use Rattle.records.specs.declared.Slot.TheVariants.{Free, Good}
use Rattle.records.specs.Slots.{slot_of}
use Rattle.flash_model.specs.declared.TheConstants.{PAGE_SLOTS}
use Rattle.flash_model.specs.Image.{IsImage, slot_at, page_count}
use Rattle.layers.specs.Codes.{DefaultCodes}
use Rattle.layers.specs.Commands.{word_of}
use Rattle.layers.specs.Entries.{changed}
use Rattle.layers.specs.declared.command.Command.{Command}
use Rattle.page_turnover.specs.declared.operation.Operation.{Operation}
use Rattle.page_turnover.specs.declared.operation.Operation.TheVariants.{Program, Erase}
use Rattle.page_turnover.specs.Active.{active}
use Rattle.page_turnover.specs.Header.{header_word}
use Rattle.page_turnover.specs.Next.{MayMake}
use Rattle.page_turnover.specs.Steps.{Keeps, Attempts}
use Rattle.page_turnover.specs.Turn.{target_page, next_seq}
use Rattle.page_turnover.specs.Usable.{IsUsable}
use Rattle.page_turnover.specs.Words.{words, FreeFrom, IsBlank, IsActiveTail, HasRoom}
use Rattle.keymap_store.specs.declared.store.Work.{Work as WorkAnswer}
use Rattle.keymap_store.specs.declared.store.Work.TheVariants.{Idle, Working, Settled, Failed}
use Rattle.keymap_store.specs.Keymap.{SameEntries}
use Rattle.keymap_store.specs.Next.{all_copies}
use Rattle.keymap_store.specs.Operations.{operations_of}
use Rattle.keymap_store.specs.Turnovers.{Turns, Wears}
use Rattle.keyboard.specs.Calls.{Call, keymap}
use Rattle.keyboard.specs.Bounded.{steps_since, accepted_image}

-- the operation loses nothing: a word of 32 bits goes into a Free slot, or a page that is not the active one is erased
abbrev pub LosesNothing : Bytes → Operation → Type 0
LosesNothing old (Program page slot word) =
    (page < page_count old) × (slot < PAGE_SLOTS) × (word < 2 ^ 32) × (slot_of (slot_at old page slot) ≡ Free)
LosesNothing old (Erase page) = (page < page_count old) × ((seq : ℕ) → active old ≡ Some (page, seq) → ⊥)

-- there is room in the active page, and the operation programs the command's record into its tail slot
pub record IsRecord (command : Command) (old : Bytes) (operation : Operation) : Type 0 where
  pub room : HasRoom old
  pub page : ℕ
  pub tail : ℕ
  pub place : IsActiveTail old page tail
  pub operation_is : operation ≡ Program page tail (word_of command)

module _ (defaults : DefaultCodes) where
  -- the page after the active one holds the first n of the words that set the entries that differ from the default, one a slot
  -- from slot 1 on, and its other slots are Free
  pub record HoldsFirst (old : Bytes) (n : ℕ) : Type 0 where
    pub header : slot_of (slot_at old (target_page old) 0) ≡ Free
    pub copied : (k : ℕ) → k < n → slot_of (slot_at old (target_page old) (k + 1)) ≡ Good (slice_index (all_copies defaults (keymap defaults old)) k)
    pub rest : FreeFrom old (target_page old) (n + 1)

  -- the operation is one of a compaction, on the page after the active one: the page is erased, where it is not blank; of the words
  -- that set the entries that differ from the default, the one at n is copied to slot n + 1, where the page holds those before
  -- it; or the header with the next sequence number goes to slot 0, where the page holds them all
  pub data IsOfTurn (old : Bytes) (operation : Operation) : Type 0 where
    erases : operation ≡ Erase (target_page old) → (IsBlank old (target_page old) → ⊥) → IsOfTurn old operation
    copies : (n : ℕ) → n < length (all_copies defaults (keymap defaults old))
        → operation ≡ Program (target_page old) (n + 1) (slice_index (all_copies defaults (keymap defaults old)) n) → HoldsFirst old n → IsOfTurn old operation
    heads : operation ≡ Program (target_page old) 0 (header_word 2 (next_seq old)) → HoldsFirst old (length (all_copies defaults (keymap defaults old)))
        → IsOfTurn old operation

  -- the command's record is the last one of the log now, and the keymap is changed by the command
  pub record AddsRecord (command : Command) (old new : Bytes) : Type 0 where
    pub record_is : words new ≡ words old ++ word_of command ∷ []
    pub entries : SameEntries (keymap defaults new) (changed defaults (keymap defaults old) (command ∷ []))

  -- what a step may come to: the command's record is there, or the keymap is as before
  abbrev pub ComesTo : Command → Bytes → WorkAnswer → Bytes → Type 0
  ComesTo command old Settled new = AddsRecord command old new
  ComesTo command old Idle new = ⊥
  ComesTo command old _ new = SameEntries (keymap defaults new) (keymap defaults old)

  -- the operations of a command's steps are, in order, those of the list that the flash and the command gave when it was accepted,
  -- and it needs as many steps as the list is long. The operation of the last one is its record, and each before is one of a
  -- turn, which is made where there is no room; a step that fails leaves words and active page as they were
  pub record Advances (accepted_at : Bytes) (made : ℕ) (command : Command) (old : Bytes) (operation : Operation) (work : WorkAnswer) (new : Bytes) : Type 0 where
    pub needed : ℕ
    pub needed_is : needed ≡ length (operations_of defaults accepted_at command)
    pub within : suc made ≤ needed
    pub in_order : slice_get (operations_of defaults accepted_at command) made ≡ Some operation
    pub record_last : suc made ≡ needed → IsRecord command old operation
    pub turn_before : suc made < needed → IsOfTurn old operation
    pub no_room : suc made < needed → HasRoom old → ⊥
    pub last : work ≡ Settled → suc made ≡ needed
    pub before_last : work ≡ Working → (suc made < needed) × Turns defaults old new
    pub fails : work ≡ Failed → Keeps old new

  -- what the operation may have left where it was cut short: slots 0 are sound, and the keymap is as before, or changed by
  -- the command
  abbrev pub IsCutShort : Command → Bytes → Bytes → Type 0
  IsCutShort command old cut =
      IsUsable cut × (SameEntries (keymap defaults cut) (keymap defaults old) ⊎ SameEntries (keymap defaults cut) (changed defaults (keymap defaults old) (command ∷ [])))

  -- a step of the flash work while a command works: one operation, what it leaves, and how it is answered
  pub record Works (start : Bytes) (before : List Call) (command : Command) (old : Bytes) (work : WorkAnswer) (new : Bytes) : Type 0 where
    pub operation : Operation
    -- before it, all slots 0 are sound
    pub usable : IsUsable old
    pub loses_nothing : LosesNothing old operation
    -- it was made as a whole, and its slot or page reads as intended; or it was torn, reads otherwise, and the command fails
    pub attempts : Attempts old operation (work ≡ Idle) (work ≡ Failed) new
    -- which one it is, by the steps that were made for the command
    pub advances : Advances (accepted_image start before) (steps_since before) command old operation work new
    pub outcome : ComesTo command old work new
    -- slots 0 stay sound, and of the active page at most the tail slot is touched, unless a header makes another page active
    pub sound : IsUsable new
    pub wears : Wears defaults old new
    -- whatever the power had left of it, if it had been cut inside the operation
    pub cut : (image : Bytes) → IsImage image → MayMake old operation image → IsCutShort command old image
