-- Trusted: what a step of a log does to the image and to what the log holds.
use Rattle.shapes.specs.Shapes.{Bytes}
use Rattle.std.specs.Prelude.{◌≡◌, ◌≢◌, ℕ, ◌+◌, ◌%◌, ◌^◌, ◌⊎◌, [], ◌∷◌, ◌++◌, length, Option, Some, None}
use Rattle.records.specs.Slots.{encoded}
use Rattle.flash_model.specs.Operations.{Programs, Erases}
use Rattle.page_turnover.specs.declared.log.ActivePage.{ActivePage}
use Rattle.page_turnover.specs.declared.log.stepping.Step.{Step}
use Rattle.page_turnover.specs.declared.log.stepping.Step.TheVariants.{Idle, Moved, Committed, Failed}
use Rattle.page_turnover.specs.declared.operation.Operation.{Operation}
use Rattle.page_turnover.specs.Header.{header_word}
use Rattle.page_turnover.specs.Active.{active, format}
use Rattle.page_turnover.specs.Words.{words, FreeFrom, IsBlank}
use Rattle.page_turnover.specs.Value.{LogValue, Target, Unread, Holds, Task, Rest, Append, Wait, Copy, Seal}
use Rattle.page_turnover.specs.representation.Log.{Describes}
use Rattle.page_turnover.specs.Turn.{target_page, next_seq, copied, copies, offered, IsPending}
use Rattle.page_turnover.specs.Next.{Makes, MayMake, ReadsBack, next_operation}
use Rattle.page_turnover.specs.Operates.{Operates, MayOperate, FillsAtMostOne}
use Rattle.page_turnover.specs.Usable.{IsUsable}

-- nothing is pending, and nothing changes
pub record Idles (old : Bytes) (before : LogValue) (step : Step) (new : Bytes) (after : LogValue) : Type 0 where
  pub answer : step ≡ Idle
  pub same_image : new ≡ old
  pub same_log : after ≡ before

-- the word is programmed into the tail slot
pub record Appends (old : Bytes) (before : LogValue) (word : ℕ) (step : Step) (new : Bytes) (after : LogValue) : Type 0 where
  pub answer : step ≡ Committed
  pub place : ActivePage
  pub is_active : before.active ≡ Some place
  pub programmed : Programs old place.page place.tail (encoded word) new
  pub next : after ≡ record { active = Some (record place { tail = place.tail + 1 }); unsound = before.unsound; task = Rest }

-- a target that was not read yet and is not blank is erased, and what is pending stays so
pub record ErasesTarget (old : Bytes) (before : LogValue) (target : Target) (pending : Target → Task) (step : Step) (new : Bytes) (after : LogValue) : Type 0 where
  pub answer : step ≡ Moved
  pub unread : target ≡ Unread
  pub used : IsBlank old (target_page old) → ⊥
  pub erased : Erases old (target_page old) new
  pub next : after ≡ record before { task = pending (Holds 0) }

-- a target that holds its copies, or is blank before the first
abbrev pub IsReady : Bytes → Target → Type 0
IsReady image Unread = IsBlank image (target_page image)
IsReady image (Holds n) = Unit {0}

-- the word is programmed into the slot after the copies
pub record Copies (old : Bytes) (before : LogValue) (target : Target) (word : ℕ) (step : Step) (new : Bytes) (after : LogValue) : Type 0 where
  pub answer : step ≡ Moved
  pub ready : IsReady old target
  pub programmed : Programs old (target_page old) (copied target + 1) (encoded word) new
  pub next : after ≡ record before { task = Wait (Holds (copied target + 1)) }

-- the header, of format 2, is programmed into slot 0, and makes the target the active page
pub record Seals (old : Bytes) (before : LogValue) (target : Target) (step : Step) (new : Bytes) (after : LogValue) : Type 0 where
  pub answer : step ≡ Committed
  pub ready : IsReady old target
  pub programmed : Programs old (target_page old) 0 (encoded (header_word 2 (next_seq old))) new
  pub next : after ≡ record { active = Some (record { page = target_page old; seq = next_seq old; format = 2; tail = copied target + 1 }); unsound = before.unsound; task = Rest }

-- what a step that is not Failed does for a task: at most one operation, the log after it, and its answer
abbrev pub StepsFor : Task → Bytes → LogValue → Step → Bytes → LogValue → Type 0
StepsFor (Append word) old before step new after = Appends old before word step new after
StepsFor (Copy target word) old before step new after = ErasesTarget old before target (λ t. Copy t word) step new after ⊎ Copies old before target word step new after
StepsFor (Seal target) old before step new after = ErasesTarget old before target Seal step new after ⊎ Seals old before target step new after
StepsFor _ old before step new after = Idles old before step new after

-- what a step does, by what is under way
abbrev pub Steps : Bytes → LogValue → Step → Bytes → LogValue → Type 0
Steps old before step new after = StepsFor before.task old before step new after

-- the words, their format and the active page are as before
pub record Keeps (old new : Bytes) : Type 0 where
  pub words_are : words new ≡ words old
  pub active_is : active new ≡ active old
  pub format_is : format new ≡ format old

-- a step that commits nothing leaves the words and the active page as they were, and no copy is lost or made twice
pub record Moves (old : Bytes) (before : Task) (new : Bytes) (after : Task) : Type 0 where
  pub keeps : Keeps old new
  pub copies_are : copies new after ++ offered after ≡ copies old before ++ offered before

-- the word comes after the words before, on the same active page
pub record CommitsWord (old : Bytes) (word : ℕ) (new : Bytes) : Type 0 where
  pub words_are : words new ≡ words old ++ word ∷ []
  pub active_is : active new ≡ active old
  pub format_is : format new ≡ format old

-- the copies are the words of the new active page, which is of format 2, and whose other slots are Free
pub record CommitsTurn (old : Bytes) (before : Task) (new : Bytes) : Type 0 where
  pub words_are : words new ≡ copies old before
  pub active_is : active new ≡ Some (target_page old, next_seq old)
  pub format_is : format new ≡ Some 2
  pub rest : FreeFrom new (target_page old) (length (copies old before) + 1)

-- what a commit does to the words
abbrev pub Commits : Bytes → Task → Bytes → Type 0
Commits old (Append word) new = CommitsWord old word new
Commits old (Seal target) new = CommitsTurn old (Seal target) new
Commits old _ new = ⊥

-- how a step ends: with its effect, or Failed, after which nothing is under way and the words are as before
pub record EndsAs (old : Bytes) (before : LogValue) (step : Step) (new : Bytes) (after : LogValue) : Type 0 where
  pub describes : Describes new after
  pub done : step ≢ Failed → Steps old before step new after
  pub pending : step ≡ Failed → IsPending before.task
  pub rests : step ≡ Failed → after.task ≡ Rest
  pub kept : step ≡ Failed → Keeps old new

-- An answer says that nothing was to do (it is idle), that the operation failed, or, where it is neither, that it is done.

-- the operation is whole and its target reads as intended; or it is torn, its target reads otherwise, and the answer is failed
pub record Attempts (old : Bytes) (operation : Operation) (idle failed : Type 0) (new : Bytes) : Type 0 where
  pub not_idle : idle → ⊥
  pub done : (failed → ⊥) → Makes old operation new × ReadsBack operation new
  pub torn : failed → MayMake old operation new × (ReadsBack operation new → ⊥)

-- the operation that is next is made, and none where nothing is
abbrev pub AttemptsNext : Option Operation → Bytes → Type 0 → Type 0 → Bytes → Type 0
AttemptsNext (Some operation) old idle failed new = Attempts old operation idle failed new
AttemptsNext None old idle failed new = idle × (new ≡ old)

-- one operation is made, or none if the answer is idle; a failed one is a fault, and a fault may have read back as done
pub record CountsAs (idle failed : Type 0) (operations operations_after faults faults_after : ℕ) : Type 0 where
  pub one : (idle → ⊥) → operations_after ≡ (operations + 1) % 2 ^ 64
  pub none : idle → operations_after ≡ operations
  pub fault : failed → faults_after ≡ (faults + 1) % 2 ^ 64
  pub no_fault : idle → faults_after ≡ faults
  pub read_back : (failed → ⊥) → (faults_after ≡ faults) ⊎ (faults_after ≡ (faults + 1) % 2 ^ 64)

-- all that a step owes where something is pending: how it ends, the operation that it makes, and what its answer means
pub record IsStep (old : Bytes) (before : LogValue) (step : Step) (new : Bytes) (after : LogValue) : Type 0 where
  pub not_idle : step ≢ Idle
  pub ends : EndsAs old before step new after
  pub attempts : AttemptsNext (next_operation old before) old (step ≡ Idle) (step ≡ Failed) new
  pub moved : step ≡ Moved → Moves old before.task new after.task
  pub committed : step ≡ Committed → Commits old before.task new
  pub was_usable : IsUsable old
  pub usable : IsUsable new
  pub operates : step ≢ Failed → Operates old new
  pub torn : step ≡ Failed → MayOperate old new
  pub fills : FillsAtMostOne old new
