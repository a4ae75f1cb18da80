-- Trusted where this crate is called: equal samples in a row that make a value, and the newest ones.
use Rattle.std.specs.Prelude.{◌≡◌, ℕ, ◌+◌, ◌<◌, Bool, List, Some, slice_get}
use Rattle.debounce.specs.Samples.{samples_needed}

-- the `samples_needed` samples from this place on, of samples newest first, are there and have this value
pub record IsWindow (samples : List Bool) (start : ℕ) (value : Bool) : Type 0 where
  pub equal : (k : ℕ) → k < samples_needed → slice_get samples (start + k) ≡ Some value

-- and none ends later
pub record IsNewestWindow (samples : List Bool) (start : ℕ) (value : Bool) : Type 0 where
  pub here : IsWindow samples start value
  pub none_later : (later : ℕ) (other : Bool) → later < start → IsWindow samples later other → ⊥
