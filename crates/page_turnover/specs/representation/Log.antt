-- Representation: what a log holds refines an image.
use Rattle.shapes.specs.Shapes.{Bytes}
use Rattle.std.specs.Prelude.{◌≡◌, ◌%◌, ◌^◌, ℕ, Option, Some, None, MatchOption}
use Rattle.flash_model.specs.Image.{IsImage}
use Rattle.page_turnover.specs.Active.{active, format}
use Rattle.page_turnover.specs.Words.{IsTail}
use Rattle.page_turnover.specs.Usable.{IsUsable, IsFirstUnsound}
use Rattle.page_turnover.specs.declared.log.ActivePage.{ActivePage}
use Rattle.page_turnover.specs.Value.{LogValue}
use Rattle.page_turnover.specs.representation.Turn.{UnderWay}

-- a page with its header's word, as a page with its sequence number
abbrev pub numbered : Option (ℕ × ℕ) → Option (ℕ × ℕ)
numbered (Some place) = Some (place.0, place.1 % 2 ^ 28)
numbered None = None

-- the active page of an image is this one
pub record IsHeld (image : Bytes) (held : ActivePage) : Type 0 where
  pub is_active : active image ≡ Some (held.page, held.seq)
  pub format_is : format image ≡ Some held.format
  pub is_tail : IsTail image held.page held.tail

-- a log describes an image: a clause for each field
pub record Describes (image : Bytes) (log : LogValue) : Type 0 where
  pub whole : IsImage image
  pub active_is : MatchOption log.active (active image ≡ None) (λ a. IsHeld image a)
  pub unsound_is : MatchOption log.unsound (IsUsable image) (λ page. IsFirstUnsound image page)
  pub task_is : UnderWay image log.task
