-- Representation: what the private parts of a compaction owe each other; what `work` guarantees is in Works.
use Rattle.shapes.specs.Shapes.{Bytes}
use Rattle.std.specs.Prelude.{◌≡◌, ◌≢◌, ◌+◌, ◌<◌, ◌≤◌, ℕ, Some}
use Rattle.layers.specs.Codes.{DefaultCodes}
use Rattle.layers.specs.Copies.{places}
use Rattle.layers.specs.declared.command.Command.{Command}
use Rattle.page_turnover.specs.declared.log.stepping.Step.{Step}
use Rattle.page_turnover.specs.declared.log.stepping.Step.TheVariants.{Failed}
use Rattle.page_turnover.specs.declared.operation.Operation.{Operation}
use Rattle.page_turnover.specs.Next.{next_operation}
use Rattle.page_turnover.specs.Steps.{IsStep}
use Rattle.page_turnover.specs.Value.{LogValue, Task, Wait, Copy, Seal}
use Rattle.page_turnover.specs.representation.Log.{Describes}
use Rattle.page_turnover.specs.Turn.{copied, IsPending}
use Rattle.keymap_store.specs.representation.Store.{OffersBelow}
use Rattle.keymap_store.specs.declared.store.Job.{Job}
use Rattle.keymap_store.specs.declared.store.Job.TheVariants.{Turning}
use Rattle.keymap_store.specs.Left.{target_of}
use Rattle.keymap_store.specs.Next.{next_task, with_task}

-- a compaction is under way, and one that waits has made fewer than 511 copies
abbrev pub CanGoOn : Task → Type 0
CanGoOn (Wait target) = copied target < 511
CanGoOn (Copy target word) = Unit {0}
CanGoOn (Seal target) = Unit {0}
CanGoOn _ = ⊥

module _ (defaults : DefaultCodes) where
  -- a log that was offered what its compaction wants next
  pub record IsOffered (entries : ℕ → ℕ → ℕ) (image : Bytes) (before after : LogValue) (from : ℕ) : Type 0 where
    pub describes : Describes image after
    pub offers : OffersBelow defaults entries from image after.task
    pub pending : IsPending after.task
    pub next : after ≡ with_task before (next_task defaults entries before.task)

  -- a step of a compaction whose log was offered what it wants, and whose job looks for its next entry from a place on
  pub record GoesOn (entries : ℕ → ℕ → ℕ) (command : Command) (old : Bytes) (before : LogValue) (step : Step) (new : Bytes) (after : LogValue) (job : Job) (healthy healthy_after : ℕ → Type 0) (operates : Operation → Type 0) : Type 0 where
    pub log : LogValue
    pub from : ℕ
    pub offered : IsOffered entries old before log from
    pub within : from ≤ places
    pub target : target_of log.task ≡ target_of before.task
    pub steps : IsStep old log step new after
    pub job_is : job ≡ Turning command from
    pub faultless : (n : ℕ) → healthy (n + 1) → healthy_after n × (step ≢ Failed)
    pub operated : (operation : Operation) → next_operation old log ≡ Some operation → operates operation
