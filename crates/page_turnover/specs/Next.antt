-- Trusted: the operation that a step of a log makes next.
use Rattle.shapes.specs.Shapes.{Bytes}
use Rattle.std.specs.Prelude.{◌≡◌, ℕ, ◌+◌, ◌^◌, ◌<◌, Bool, true, false, Option, Some, None}
use Rattle.records.specs.declared.Slot.TheVariants.{Good}
use Rattle.records.specs.Slots.{slot_of, encoded}
use Rattle.flash_model.specs.Image.{slot_at}
use Rattle.flash_model.specs.FlashOperation.{FlashOperation, programs, erases}
use Rattle.flash_model.specs.Operations.{Programs, MayProgram, Erases, MayErase}
use Rattle.page_turnover.specs.declared.log.ActivePage.{ActivePage}
use Rattle.page_turnover.specs.declared.operation.Operation.{Operation}
use Rattle.page_turnover.specs.declared.operation.Operation.TheVariants.{Program, Erase}
use Rattle.page_turnover.specs.Header.{header_word}
use Rattle.page_turnover.specs.Words.{IsBlank}
use Rattle.page_turnover.specs.Blank.{is_blank}
use Rattle.page_turnover.specs.Value.{LogValue, Target, Unread, Holds, Task, Append, Copy, Seal}
use Rattle.page_turnover.specs.Turn.{target_page, next_seq, copied}

-- whether a target holds its copies, or is blank before the first: else it has to be erased
abbrev pub is_ready : Bytes → Target → Bool
is_ready image Unread = is_blank image (target_page image)
is_ready image (Holds n) = true

-- the next operation of a compaction, by whether its target is ready
abbrev pub turn_operation : Bool → Bytes → ℕ → ℕ → Operation
turn_operation true image slot word = Program (target_page image) slot word
turn_operation false image slot word = Erase (target_page image)

-- a record goes to the tail slot of the active page
abbrev pub append_operation : Option ActivePage → ℕ → Option Operation
append_operation (Some place) word = Some (Program place.page place.tail word)
append_operation None word = None

-- a copy goes to the slot after the copies made, and the header, of format 2, to slot 0
abbrev pub operation_for : Task → Bytes → LogValue → Option Operation
operation_for (Append word) image log = append_operation log.active word
operation_for (Copy target word) image log = Some (turn_operation (is_ready image target) image (copied target + 1) word)
operation_for (Seal target) image log = Some (turn_operation (is_ready image target) image 0 (header_word 2 (next_seq image)))
operation_for _ image log = None

-- the operation that the next step makes, if any
abbrev pub next_operation : Bytes → LogValue → Option Operation
next_operation image log = operation_for log.task image log

-- an operation as the flash is asked for it
abbrev pub on_flash : Operation → FlashOperation
on_flash (Program page slot word) = programs page slot (encoded word)
on_flash (Erase page) = erases page

-- the word that an operation programs, if it does, has bit 31 clear
abbrev pub ProgramsShort : Operation → Type 0
ProgramsShort (Program page slot word) = word < 2 ^ 31
ProgramsShort (Erase page) = Unit {0}

-- the next program, if there is one, is among those that a flash takes besides the short words
abbrev pub TakesNext : (ℕ → ℕ → Bytes → Type 0) → Bytes → LogValue → Type 0
TakesNext takes image log = (page slot word : ℕ) → next_operation image log ≡ Some (Program page slot word) → takes page slot (encoded word)

-- the whole of an operation
abbrev pub Makes : Bytes → Operation → Bytes → Type 0
Makes old (Program page slot word) new = Programs old page slot (encoded word) new
Makes old (Erase page) new = Erases old page new

-- an operation that was torn
abbrev pub MayMake : Bytes → Operation → Bytes → Type 0
MayMake old (Program page slot word) new = MayProgram old page slot (encoded word) new
MayMake old (Erase page) new = MayErase old page new

-- the slot or the page of an operation reads as intended
abbrev pub ReadsBack : Operation → Bytes → Type 0
ReadsBack (Program page slot word) image = slot_of (slot_at image page slot) ≡ Good word
ReadsBack (Erase page) image = IsBlank image page
