-- Representation: what a guard keeps of the calls, and the device behind it.
use Rattle.std.specs.Prelude.{◌≡◌, ℕ, ◌-◌, Bool, true, false, List, ◌++◌}
use Rattle.usb_device.specs.declared.answer.EpAnswer.{EpAnswer}
use Rattle.usb_device.specs.declared.answer.EpAnswer.TheVariants.{Ack}
use Rattle.usb_device.specs.declared.guard.Guard.{Guard}
use Rattle.usb_device.specs.declared.guarded.Guarded.{Guarded}
use Rattle.usb_device.specs.declared.guard.Passage as Kept
use Rattle.usb_device.specs.Calls.{EpCall}
use Rattle.usb_device.specs.Confirmed.{asked_of}
use Rattle.usb_device.specs.Guarding.{GuardCall, calls_met, is_feature, is_locked, is_refused, scans_since, Passage, Refuses, Waits, Passes, AllGuarded, passed}

unfoldable pub guard_of : ℕ → List GuardCall → Guard
guard_of pace past = record {
  pace = pace;
  locked = is_locked past;
  feature = is_feature (asked_of (calls_met past));
  refused = is_refused past;
  left = pace - scans_since past;
}

abbrev pub passage_view : Kept.Passage → Passage
passage_view Kept.TheVariants.Refuses = Refuses
passage_view Kept.TheVariants.Waits = Waits
passage_view Kept.TheVariants.Passes = Passes

pub record Guards {E : Type 0} (refines : List EpCall → E → Type 0) (pace : ℕ) (past : List GuardCall) (guard : Guard) (behind : E) : Type 0 where
  pub answered : AllGuarded pace past
  pub kept : guard ≡ guard_of pace past
  pub session : refines (passed pace past) behind

abbrev pub is_taken : EpAnswer → Bool
is_taken Ack = true
is_taken _ = false

abbrev pub left_by : Bool → ℕ → ℕ → ℕ
left_by true pace left = pace
left_by false pace left = left

-- it refines these calls of its bus
abbrev pub RefinesGuarded : {E : Type 0} → (List EpCall → E → Type 0) → List EpCall → Guard → E → Type 0
RefinesGuarded refines calls guard behind = (pace : ℕ) × (past : List GuardCall) × Guards refines pace past guard behind × (calls_met past ≡ calls)

abbrev pub guarded_refines : {E : Type 0} → (List EpCall → E → Type 0) → List EpCall → Guarded E → Type 0
guarded_refines refines calls g = RefinesGuarded refines calls g.guard g.behind

-- the device has come from there to here by such calls, on whatever it refined
abbrev pub Went : {E : Type 0} → (List EpCall → E → Type 0) → (List GuardCall → Type 0) → Guarded E → Guarded E → Type 0
Went refines such from now = (pace : ℕ) (past : List GuardCall) → Guards refines pace past from.guard from.behind
    → (since : List GuardCall) × such since × Guards refines pace (since ++ past) now.guard now.behind
