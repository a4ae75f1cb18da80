use Rattle.std.proofs.Common.{◌≡◌, ℕ, List, Option, MatchOption}
use Rattle.std.specs.Prelude.{⊤}
use Rattle.records.specs.declared.Slot.TheVariants.{Good}
use Rattle.records.specs.Slots.{slot_of}
use Rattle.flash_model.specs.Image.{slot_at}
use Rattle.page_turnover.specs.Active.{newest}
use Rattle.page_turnover.specs.representation.Log.{numbered}
use Rattle.page_turnover.specs.Usable.{IsSoundBelow, IsFirstUnsound}
use Rattle.page_turnover.proofs.reading.read_headers.Given as goal

-- what the pages below this one say
pub record SoFar (image : List ℕ) (page : ℕ) (active : Option (ℕ × ℕ)) (unsound : Option ℕ) : Type 0 where
  pub active_is : numbered active ≡ newest image page
  pub words_are : MatchOption active ⊤ (λ r. slot_of (slot_at image r.0 0) ≡ Good r.1)
  pub unsound_is : MatchOption unsound (IsSoundBelow image page) (λ p. IsFirstUnsound image p)

abbrev pub invariant-loop-page : goal.invariant-loop-page
invariant-loop-page g l = SoFar (g.F.NorFlash.image l.flash) l.page l.active l.unsound
