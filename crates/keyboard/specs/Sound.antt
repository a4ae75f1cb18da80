-- Trusted: slot 0 of each page stays sound.
use Rattle.shapes.specs.Shapes.{Bytes}
use Rattle.std.specs.Prelude.{◌≡◌, List, [], ◌∷◌}
use Rattle.page_turnover.specs.Usable.{IsUsable}
use Rattle.keymap_store.specs.declared.store.Work.TheVariants.{Idle}
use Rattle.keyboard.specs.Calls.{Call, Worked, image_after}

-- no step of the flash work made an operation
abbrev pub NoneOperates : List Call → Type 0
NoneOperates [] = Unit {0}
NoneOperates (Worked work image ∷ before) = (work ≡ Idle) × NoneOperates before
NoneOperates (_ ∷ before) = NoneOperates before

-- while each is sound, each stays so, whatever is torn; where one is not, no operation is ever made
pub record KeepsSound (start : Bytes) (past : List Call) : Type 0 where
  pub sound : IsUsable start → IsUsable (image_after start past)
  pub untouched : (IsUsable start → ⊥) → (image_after start past ≡ start) × NoneOperates past
