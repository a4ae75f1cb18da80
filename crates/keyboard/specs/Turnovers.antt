-- Trusted: how far apart the compactions of a session are.
use Rattle.shapes.specs.Shapes.{Bytes}
use Rattle.std.specs.Prelude.{ℕ, suc, List, [], ◌∷◌, ◌++◌}
use Rattle.layers.specs.Codes.{DefaultCodes}
use Rattle.keymap_store.specs.declared.store.Work.{Work}
use Rattle.keymap_store.specs.declared.store.Work.TheVariants.{Idle}
use Rattle.keymap_store.specs.Turnovers.{TurnsOver}
use Rattle.keyboard.specs.Calls.{Call, Worked, image_after}

-- one operation more, where a step made one
abbrev pub with_step : Work → ℕ → ℕ
with_step Idle count = count
with_step _ count = suc count

-- how many flash operations these calls made
abbrev pub operations : List Call → ℕ
operations [] = 0
operations (Worked work image ∷ before) = with_step work (operations before)
operations (_ ∷ before) = operations before

module _ (defaults : DefaultCodes) where
  -- none of these calls, newest first, on top of a past made another page the active one
  abbrev pub NoneTurnsOver : Bytes → List Call → List Call → Type 0
  NoneTurnsOver start [] past = Unit {0}
  NoneTurnsOver start (Worked work image ∷ before) past =
      (TurnsOver defaults (image_after start (before ++ past)) image → ⊥) × NoneTurnsOver start before past
  NoneTurnsOver start (_ ∷ before) past = NoneTurnsOver start before past
