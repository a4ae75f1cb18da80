-- Trusted: how often pages are turned over.
use Rattle.shapes.specs.Shapes.{Bytes}
use Rattle.std.specs.Prelude.{◌≡◌, ◌≢◌, ℕ, suc, List, [], ◌∷◌, ◌++◌}
use Rattle.flash_model.specs.Operations.{OneSlot}
use Rattle.flash_model.specs.Sim.{SimValue}
use Rattle.page_turnover.specs.Active.{active}
use Rattle.page_turnover.specs.Words.{IsActiveTail}
use Rattle.world.specs.Kinds.{Step}
use Rattle.world.specs.History.{image_after}

-- a header is committed: another page becomes the active one, or another sequence number counts
abbrev pub CommitsHeader : Bytes → Bytes → Type 0
CommitsHeader old new = active new ≢ active old

-- something is written to the tail slot of the active page, be it torn, and to no other slot of the flash
pub record WritesTail (old new : Bytes) : Type 0 where
  pub page : ℕ
  pub tail : ℕ
  pub place : IsActiveTail old page tail
  pub only : OneSlot old page tail new
  pub changes : new ≢ old

-- at least so many of these steps, newest first, on top of a past write to the tail
pub data TailWrites (start : SimValue) (past : List Step) : ℕ → List Step → Type 0 where
  at_first : TailWrites start past 0 []
  one_more : (n : ℕ) (step : Step) (before : List Step) → WritesTail (image_after start (before ++ past)) step.flash.image → TailWrites start past n before
      → TailWrites start past (suc n) (step ∷ before)
  passes : (n : ℕ) (step : Step) (before : List Step) → TailWrites start past n before → TailWrites start past n (step ∷ before)

-- between two steps that commit a header, whatever cuts, resets and sessions lie between, at least 127 write to the tail
abbrev pub WearsSlowly : SimValue → List Step → Type 0
WearsSlowly start history =
    (after between before : List Step) (last first : Step) → history ≡ after ++ last ∷ between ++ first ∷ before
    → CommitsHeader (image_after start before) first.flash.image
    → CommitsHeader (image_after start (between ++ first ∷ before)) last.flash.image
    → TailWrites start (first ∷ before) 127 between
