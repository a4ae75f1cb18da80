-- Trusted: all sessions of a keyboard: a power loss ends one, and the start after it begins the next.
use Rattle.shapes.specs.Shapes.{Bytes}
use Rattle.std.specs.Prelude.{◌≡◌, ◌⊎◌, ℕ, List, [], ◌∷◌}
use Rattle.flash_model.specs.Image.{IsImage}
use Rattle.layers.specs.Codes.{DefaultCodes}
use Rattle.page_turnover.specs.Next.{MayMake}
use Rattle.keymap_store.specs.declared.store.Work.{Work}
use Rattle.keyboard.specs.Acknowledged.{IsAcknowledgedInSession, NoneAcceptedWrites}
use Rattle.keyboard.specs.Calls.{Call, image_after}
use Rattle.keyboard.specs.Conforming.{IsConforming, MakesSuch}

-- a session: the image that the keyboard started on, and its calls since, newest first
pub record Session : Type 0 where
  pub first : Bytes
  pub past : List Call

module _ (defaults : DefaultCodes) where
  -- a power loss after these calls may leave this image: the one that they left; or, inside a step of the flash work that may
  -- come next, one that its operation leaves, whole or torn
  pub data MayLeave (start : Bytes) (past : List Call) (image : Bytes) : Type 0 where
    between : image ≡ image_after start past → MayLeave start past image
    inside : (work : Work) → (new : Bytes) → IsImage image → MakesSuch defaults start past work new (λ operation. MayMake (image_after start past) operation image) → MayLeave start past image

  -- a session starts on an image that the power loss before it may have left, and the first one on any
  abbrev pub StartsAfter : Bytes → List Session → Type 0
  StartsAfter first [] = Unit {0}
  StartsAfter first (before ∷ earlier) = MayLeave before.first before.past first

  -- each of these sessions, newest first, starts so, and each of its calls is answered as it has to be
  abbrev pub Follow : List Session → Type 0
  Follow [] = Unit {0}
  Follow (now ∷ earlier) = IsConforming defaults now.first now.past × StartsAfter now.first earlier × Follow earlier

  -- in one of these sessions the host was told that a command is stored that gives the entry this code, and no command was accepted
  -- since that would write the entry, in this session or a later one
  abbrev pub IsAcknowledged : List Session → ℕ → ℕ → ℕ → Type 0
  IsAcknowledged [] layer key code = ⊥
  IsAcknowledged (now ∷ earlier) layer key code =
      IsAcknowledgedInSession defaults now.past layer key code ⊎ (NoneAcceptedWrites defaults now.past [] layer key × IsAcknowledged earlier layer key code)
