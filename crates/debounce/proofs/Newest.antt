use Rattle.std.proofs.Common.{◌≡◌, ◌+◌, ◌<◌, ◌≤◌, ℕ, Bool, true, false, List, [], ◌∷◌, Some, None, arith, refl, ◌∙◌, inl, inr, zero-add, suc, zero}
use Rattle.std.specs.List.{slice_get}
use Rattle.std.proofs.lemmas.Bool.{cases_lt}
use Rattle.debounce.specs.Samples.{run_of, debounced}
use Rattle.debounce.specs.Windows.{IsWindow, IsNewestWindow}
use Rattle.debounce.proofs.Counts.{debounced_run, debounced_short}

-- the newest samples that have a value are a run of it
run_from_samples : (x : Bool) (samples : List Bool) (n : ℕ) → ((k : ℕ) → k < n → slice_get samples k ≡ Some x) → n ≤ run_of x samples
run_from_samples x samples zero each = omega arith
run_from_samples x [] (suc n) each = let e : None ≡ Some x = each 0 (omega arith) in cc
run_from_samples true (true ∷ samples) (suc n) each = omega (arith, run_from_samples true samples n (λ k l. each (suc k) (omega arith)))
run_from_samples false (false ∷ samples) (suc n) each = omega (arith, run_from_samples false samples n (λ k l. each (suc k) (omega arith)))
run_from_samples true (false ∷ samples) (suc n) each = let e : Some false ≡ Some true = each 0 (omega arith) in cc
run_from_samples false (true ∷ samples) (suc n) each = let e : Some true ≡ Some false = each 0 (omega arith) in cc

-- and the samples of a run have its value
samples_from_run : (x : Bool) (samples : List Bool) (k : ℕ) → k < run_of x samples → slice_get samples k ≡ Some x
samples_from_run x [] k l = absurd (omega arith)
samples_from_run true (true ∷ samples) zero l = refl
samples_from_run false (false ∷ samples) zero l = refl
samples_from_run true (true ∷ samples) (suc k) l = samples_from_run true samples k (omega arith)
samples_from_run false (false ∷ samples) (suc k) l = samples_from_run false samples k (omega arith)
samples_from_run true (false ∷ samples) k l = absurd (omega arith)
samples_from_run false (true ∷ samples) k l = absurd (omega arith)

-- a window, seen with one sample more
earlier : (x y : Bool) (samples : List Bool) (n : ℕ) → IsWindow samples n x → IsWindow (y ∷ samples) (suc n) x
earlier x y samples n w = record { equal = λ k l. let e : suc n + k ≡ suc (n + k) = omega arith in rw e (w.equal k l) }

-- or with one less
later : (x y : Bool) (samples : List Bool) (n : ℕ) → IsWindow (y ∷ samples) (suc n) x → IsWindow samples n x
later x y samples n w = record { equal = λ k l. let e : suc n + k ≡ suc (n + k) = omega arith in rw e at (w.equal k l) }

window_here : (x : Bool) (samples : List Bool) → 5 ≤ run_of x samples → IsWindow samples 0 x
window_here x samples five = record { equal = λ k l. rw (zero-add k) (samples_from_run x samples k (omega arith)) }

pub newest-decides : (samples : List Bool) (start : ℕ) (x : Bool) → IsNewestWindow samples start x → debounced samples ≡ x
newest-decides [] start x w = let e : None ≡ Some x = w.here.equal 0 (omega arith) in cc
newest-decides (y ∷ ys) zero x w =
    debounced_run x (y ∷ ys) (run_from_samples x (y ∷ ys) 5 (λ k l. rw (zero-add k) at (w.here.equal k l)))
newest-decides (y ∷ ys) (suc n) x w =
    elim (cases_lt (run_of y (y ∷ ys)) 5) [
      | inl short ↦ debounced_short y ys short ∙ newest-decides ys n x (record {
        here = later x y ys n w.here;
        none_later = λ m z l v. w.none_later (suc m) z (omega arith) (earlier z y ys m v);
      })
      | inr five ↦ absurd (w.none_later 0 y (omega arith) (window_here y (y ∷ ys) five))
    ]

pub none-decides : (samples : List Bool) → ((start : ℕ) (x : Bool) → IsWindow samples start x → ⊥) → debounced samples ≡ false
unfolding debounced
none-decides [] none = refl
none-decides (y ∷ ys) none =
    elim (cases_lt (run_of y (y ∷ ys)) 5) [
      | inl short ↦ debounced_short y ys short ∙ none-decides ys (λ n x w. none (suc n) x (earlier x y ys n w))
      | inr five ↦ absurd (none 0 y (window_here y (y ∷ ys) five))
    ]
