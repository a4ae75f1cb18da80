-- Representation: the operations that a store has still to make, in their order.
use Rattle.shapes.specs.Shapes.{Bytes, SlotWords}
use Rattle.std.specs.Prelude.{◌≡◌, ◌≢◌, ℕ, suc, Option, Some, None, List, [], ◌∷◌, ◌++◌, length, drop}
use Rattle.layers.specs.Codes.{DefaultCodes}
use Rattle.layers.specs.Commands.{word_of}
use Rattle.page_turnover.specs.declared.log.ActivePage.{ActivePage}
use Rattle.page_turnover.specs.declared.operation.Operation.{Operation}
use Rattle.page_turnover.specs.declared.operation.Operation.TheVariants.{Program}
use Rattle.page_turnover.specs.Turn.{target_page, copied}
use Rattle.page_turnover.specs.Value.{LogValue, Target, Unread, Holds}
use Rattle.keymap_store.specs.declared.store.Job.{Job}
use Rattle.keymap_store.specs.declared.store.Job.TheVariants.{Resting, Appending, Turning}
use Rattle.keymap_store.specs.declared.store.Work.{Work}
use Rattle.keymap_store.specs.declared.store.Work.TheVariants.{Working, Settled}
use Rattle.keymap_store.specs.Keymap.{entries_of}
use Rattle.keymap_store.specs.Left.{target_of}
use Rattle.keymap_store.specs.Next.{all_copies}
use Rattle.keymap_store.specs.Operations.{erase_if_used, programs_from, header_and_record}
use Rattle.keymap_store.specs.Value.{StoreValue}

-- a record that goes to the page that a log holds
abbrev pub append_rest : Option ActivePage → ℕ → List Operation
append_rest (Some place) word = Program place.page place.tail word ∷ []
append_rest None word = []

-- whether the target has still to be erased
abbrev pub erase_rest : Bytes → Target → List Operation
erase_rest image Unread = erase_if_used image (target_page image)
erase_rest image (Holds n) = []

-- the copies that a target does not hold yet
abbrev pub copies_rest : Bytes → ℕ → SlotWords → List Operation
copies_rest image n copies = programs_from (target_page image) (suc n) (drop n copies)

-- what is left of a compaction, and the record after it
abbrev pub turn_rest : Bytes → Target → SlotWords → ℕ → List Operation
turn_rest image target copies word =
    erase_rest image target ++ (copies_rest image (copied target) copies ++ header_and_record image (length copies) word)

module _ (defaults : DefaultCodes) where
  abbrev pub rest_for : Bytes → LogValue → Job → List Operation
  rest_for image log Resting = []
  rest_for image log (Appending command) = append_rest log.active (word_of command)
  rest_for image log (Turning command from) = turn_rest image (target_of log.task) (all_copies defaults (entries_of defaults image)) (word_of command)

  -- the operations that the command that works still needs; none where none works
  abbrev pub rest_of : Bytes → StoreValue → List Operation
  rest_of image store = rest_for image store.log store.job

-- a call that answers Working takes the first operation off, Settled is the answer to the last one, and after any other answer
-- than Working none is left
pub record TakesFirst (work : Work) (before after : List Operation) : Type 0 where
  pub goes_on : work ≡ Working → after ≡ drop 1 before
  pub last : work ≡ Settled → drop 1 before ≡ []
  pub ends : work ≢ Working → after ≡ []
