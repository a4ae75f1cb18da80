-- How many steps of the flash work a command takes, after one call more.
use Rattle.std.proofs.Common.{◌≡◌, ℕ, suc, ◌≤◌, IsSome, Option, Some, None, List, ◌∷◌, ap, ◌∙◌, arith}
use Rattle.layers.specs.Codes.{DefaultCodes}
use Rattle.layers.specs.declared.command.Command.{Command}
use Rattle.page_turnover.specs.Value.{LogValue}
use Rattle.keymap_store.specs.declared.store.Job.{Job}
use Rattle.keymap_store.specs.declared.store.Job.TheVariants.{Resting, Appending, Turning}
use Rattle.keymap_store.specs.Value.{StoreValue}
use Rattle.keymap_store.specs.Store.{working as working_in}
use Rattle.keymap_store.specs.Left.{left, left_for}
use Rattle.keyboard.specs.Calls.{Call, image_after}
use Rattle.keyboard.specs.Commands.{accepts}
use Rattle.keyboard.specs.Bounded.{most_steps, counted, unless_accepted, steps_since, image_if, accepted_image}

-- calls that are no flash work, and accept nothing
pub steps_since-same : (call : Call) (past : List Call) → ((count : ℕ) → counted call count ≡ count) → accepts past call ≡ None → steps_since (call ∷ past) ≡ steps_since past
unfolding steps_since
steps_since-same call past c n = ap (λ (o : Option Command). unless_accepted o (counted call (steps_since past))) n ∙ c (steps_since past)

-- a step of the flash work
pub steps_since-more : (call : Call) (past : List Call) → ((count : ℕ) → counted call count ≡ suc count) → accepts past call ≡ None → steps_since (call ∷ past) ≡ suc (steps_since past)
unfolding steps_since
steps_since-more call past c n = ap (λ (o : Option Command). unless_accepted o (counted call (steps_since past))) n ∙ c (steps_since past)

-- a call that accepts a command
pub steps_since-none : (call : Call) (past : List Call) (command : Command) → accepts past call ≡ Some command → steps_since (call ∷ past) ≡ 0
unfolding steps_since
steps_since-none call past command a = ap (λ (o : Option Command). unless_accepted o (counted call (steps_since past))) a

-- the image when the latest command was accepted
pub accepted_image-same : (start : List ℕ) (call : Call) (past : List Call) → accepts past call ≡ None → accepted_image start (call ∷ past) ≡ accepted_image start past
unfolding accepted_image
accepted_image-same start call past n = ap (λ (o : Option Command). image_if o (image_after start past) (accepted_image start past)) n

pub accepted_image-now : (start : List ℕ) (call : Call) (past : List Call) (command : Command) → accepts past call ≡ Some command → accepted_image start (call ∷ past) ≡ image_after start past
unfolding accepted_image
accepted_image-now start call past command a = ap (λ (o : Option Command). image_if o (image_after start past) (accepted_image start past)) a

pub nothing_left : (w : Option Command) (count : ℕ) → w ≡ None → IsSome w → count ≤ most_steps
nothing_left w count n s = cc

pub nothing_needed : (w : Option Command) (A : Type 0) → w ≡ None → IsSome w → A
nothing_needed w A n s = cc

pub none_works : (w : Option Command) (command : Command) (A : Type 0) → w ≡ None → w ≡ Some command → A
none_works w command A n s = cc

module _ (defaults : DefaultCodes) where
  -- a command that works needs a step more
  needs_for : (image : List ℕ) (log : LogValue) (job : Job) → IsSome (working_in job) → 1 ≤ left_for defaults image log job
  needs_for image log Resting s = cc
  needs_for image log (Appending command) s = omega arith
  needs_for image log (Turning command from) s = omega arith

  pub needs_more : (image : List ℕ) (store : StoreValue) → IsSome (working_in store.job) → 1 ≤ left defaults image store
  needs_more image store s = needs_for image store.log store.job s
