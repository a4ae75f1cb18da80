-- Trusted: where changes are written.
use Rattle.shapes.specs.Shapes.{Bytes, SlotWords}
use Rattle.std.specs.Prelude.{◌≡◌, ◌+◌, Some, List, [], ◌∷◌, ◌++◌}
use Rattle.page_turnover.specs.Active.{active, format}
use Rattle.page_turnover.specs.Turn.{target_page, next_seq}
use Rattle.page_turnover.specs.Words.{words, IsTail}
use Rattle.settings.specs.declared.change.Change.{Change}
use Rattle.settings.specs.Words.{words_of}
use Rattle.settings.specs.Settings.{changed}
use Rattle.settings.specs.Copies.{all_copies}
use Rattle.settings.specs.Begins.{IsAppended, alive}

-- the words of one change
abbrev pub own_words : List Change → SlotWords
own_words [] = []
own_words (change ∷ rest) = words_of change

-- these words come after those before, on the same page
pub record Adds (old : Bytes) (more : SlotWords) (new : Bytes) : Type 0 where
  pub words_are : words new ≡ words old ++ more
  pub active_is : active new ≡ active old
  pub format_is : format new ≡ format old

-- the active page is the one after that before, with the next number; it holds the words of the values after the changes, and
-- all slots behind them are Free
pub record IsCompacted (old : Bytes) (changes : List Change) (new : Bytes) : Type 0 where
  pub is_active : active new ≡ Some (target_page old, next_seq old)
  pub format_is : format new ≡ Some 2
  pub words_are : words new ≡ all_copies (changed old changes)
  pub is_tail : IsTail new (target_page old) (1 + alive old changes)

-- where changes are once they are stored: one alone behind the words before, where there is room for it; all others on a new page
pub record AreWritten (old : Bytes) (changes : List Change) (new : Bytes) : Type 0 where
  pub appended : IsAppended old changes → Adds old (own_words changes) new
  pub compacted : (IsAppended old changes → ⊥) → IsCompacted old changes new
