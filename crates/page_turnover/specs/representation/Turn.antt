-- Representation: what an image has where a log has something under way.
use Rattle.shapes.specs.Shapes.{Bytes}
use Rattle.std.specs.Prelude.{◌≡◌, ℕ, ◌+◌, ◌^◌, ◌<◌, ◌≤◌, Option, Some, None}
use Rattle.records.specs.declared.Slot.{Slot}
use Rattle.records.specs.declared.Slot.TheVariants.{Free, Good}
use Rattle.records.specs.Slots.{slot_of}
use Rattle.flash_model.specs.Image.{slot_at}
use Rattle.page_turnover.specs.Value.{Target, Unread, Holds, Task, Rest, Append, Wait, Copy, Seal}
use Rattle.page_turnover.specs.Words.{FreeFrom, HasRoom}
use Rattle.page_turnover.specs.Usable.{IsUsable}
use Rattle.page_turnover.specs.Turn.{target_page, CanTurn, copied}

-- the slot holds a word
abbrev pub IsGood : Slot → Type 0
IsGood (Good word) = Unit {0}
IsGood _ = ⊥

-- a page with a Good word in each of the slots 1 to n, and Free elsewhere
pub record HoldsCopies (image : Bytes) (page n : ℕ) : Type 0 where
  pub few : n ≤ 511
  pub header : slot_of (slot_at image page 0) ≡ Free
  pub full : (s : ℕ) → 1 ≤ s → s ≤ n → IsGood (slot_of (slot_at image page s))
  pub rest : FreeFrom image page (n + 1)

-- a compaction is under way: its target is still to be read, and erased where it is not blank, or it holds the copies
abbrev pub TargetIs : Bytes → Target → Type 0
TargetIs image Unread = Unit {0}
TargetIs image (Holds n) = HoldsCopies image (target_page image) n

pub record Turning (image : Bytes) (target : Target) : Type 0 where
  pub can : CanTurn image
  pub target_is : TargetIs image target

pub record Copying (image : Bytes) (target : Target) (word : ℕ) : Type 0 where
  pub turning : Turning image target
  pub few : copied target < 511
  pub fits : word < 2 ^ 32

pub record Appending (image : Bytes) (word : ℕ) : Type 0 where
  pub usable : IsUsable image
  pub room : HasRoom image
  pub fits : word < 2 ^ 32

-- what an image has where a log has this under way
abbrev pub UnderWay : Bytes → Task → Type 0
UnderWay image Rest = Unit {0}
UnderWay image (Append word) = Appending image word
UnderWay image (Wait target) = Turning image target
UnderWay image (Copy target word) = Copying image target word
UnderWay image (Seal target) = Turning image target

-- a compaction that was offered this word to copy, or its commit header
abbrev pub task_of : Target → Option ℕ → Task
task_of target (Some word) = Copy target word
task_of target None = Seal target
