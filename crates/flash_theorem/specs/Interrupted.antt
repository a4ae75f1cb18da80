-- Trusted: a flash whose power is lost inside its next operation, and comes back.
use Rattle.shapes.specs.Shapes.{Bytes}
use Rattle.std.specs.Prelude.{◌≡◌, ℕ, Option, None, Some}
use Rattle.flash_model.specs.FlashOperation.{FlashOperation}

-- the flash, if it was started; behind how many other operations the power is still to be lost; the image that it had; and both counts
pub record Interruption (F : Type 0) : Type 0 where
  pub flash : Option F
  pub loss : Option ℕ
  pub before : Bytes
  pub operations : ℕ
  pub faults : ℕ

-- the image: that which it had, where the flash was not started
abbrev pub shows : {F : Type 0} → (F → Bytes) → Option F → Bytes → Bytes
shows image (Some flash) before = image flash
shows image None before = before

-- the operation that the power is lost inside made the one flash of the other
pub record Interrupts {F : Type 0} (cuts : F → FlashOperation → ℕ → F → Type 0) (old : Interruption F) (operation : FlashOperation) (new : Interruption F) : Type 0 where
  pub lost : new.loss ≡ None
  pub cut : (flash next : F) (whole : ℕ) → old.flash ≡ Some flash → old.loss ≡ Some whole → new.flash ≡ Some next → cuts flash operation whole next
