-- A flash that is healthy for each number of operations is so behind each step of the work.
use Rattle.std.proofs.Common.{◌≡◌, ◌≢◌, ℕ, ◌+◌, refl}
use Rattle.keymap_store.specs.declared.store.Work.{Work}
use Rattle.keymap_store.specs.declared.store.Work.TheVariants as Works

pub for_ever : {F : Type 0} (healthy : F → ℕ → Type 0) (work : Work) (old new : F) → (work ≡ Works.Idle → new ≡ old)
    → ((n : ℕ) → healthy old (n + 1) → (work ≢ Works.Idle → healthy new n) × (work ≢ Works.Failed)) → ((n : ℕ) → healthy old n) → ((n : ℕ) → healthy new n) × (work ≢ Works.Failed)
for_ever healthy Works.Idle old new same step all = (λ n. rw (same refl) (all n), λ e. cc)
for_ever healthy Works.Working old new same step all = (λ n. (step n (all (n + 1))).0 (λ e. cc), λ e. cc)
for_ever healthy Works.Settled old new same step all = (λ n. (step n (all (n + 1))).0 (λ e. cc), λ e. cc)
for_ever healthy Works.Failed old new same step all = absurd ((step 0 (all 1)).1 refl)
