-- Trusted: what a restart may find of the keymap.
use Rattle.shapes.specs.Shapes.{Bytes}
use Rattle.std.specs.Prelude.{◌≡◌, ℕ, Some, List, [], ◌∷◌, ◌++◌}
use Rattle.flash_model.specs.Image.{IsImage}
use Rattle.layers.specs.Codes.{DefaultCodes}
use Rattle.layers.specs.Entries.{changed}
use Rattle.layers.specs.declared.command.Command.{Command}
use Rattle.page_turnover.specs.Next.{MayMake}
use Rattle.keymap_store.specs.declared.store.Work.{Work}
use Rattle.keymap_store.specs.Keymap.{SameEntries}
use Rattle.keyboard.specs.Calls.{Call, image_after, keymap}
use Rattle.keyboard.specs.Fate.{settled}
use Rattle.keyboard.specs.Commands.{Accepted, accepted, settled_of, standing_of, commands_of, working}
use Rattle.keyboard.specs.Operated.{Works}

-- each of these commands is settled but, maybe, the last
abbrev pub AllButLastSettled : List Accepted → Type 0
AllButLastSettled [] = Unit {0}
AllButLastSettled (one ∷ []) = Unit {0}
AllButLastSettled (one ∷ next ∷ later) = (one.fate ≡ settled) × AllButLastSettled (next ∷ later)

module _ (defaults : DefaultCodes) where
  -- from a session's first keymap and the commands that it accepted, the next session's keymap: changed by a prefix, in
  -- order, of those that did not fail, and the prefix holds each settled one
  pub record LegalRestart (entries : ℕ → ℕ → ℕ) (session : List Accepted) (next : ℕ → ℕ → ℕ) : Type 0 where
    pub kept : List Accepted
    pub lost : List Accepted
    pub prefix : kept ++ lost ≡ standing_of session
    pub holds_settled : settled_of lost ≡ []
    pub at_most_last : AllButLastSettled (standing_of session)
    pub changed_by : SameEntries next (changed defaults entries (commands_of kept))

  -- a restart on this image, after these calls, is legal
  abbrev pub RestartsLegally : Bytes → List Call → Bytes → Type 0
  RestartsLegally start past image = LegalRestart (keymap defaults start) (accepted defaults start past) (keymap defaults image)

  -- a step of the flash work made an operation for the command that works, and by the calls before it a restart is legal on
  -- each image that this operation might have left, had the power been cut inside it, and on the image that it left
  pub record CutsLegally (start : Bytes) (past : List Call) (work : Work) (new : Bytes) : Type 0 where
    pub command : Command
    pub is_working : working defaults start past ≡ Some command
    pub works : Works defaults start past command (image_after start past) work new
    pub legal : (cut : Bytes) → IsImage cut → MayMake (image_after start past) works.operation cut → RestartsLegally start past cut
    pub left : RestartsLegally start past new
