-- A status stage uses up the operations that it makes, and none of its steps fails on a flash that is healthy for them.
use Rattle.std.proofs.Common.{◌≡◌, ◌≢◌, ◌⊎◌, ℕ, ◌+◌, ◌-◌, ◌%◌, ◌^◌, ◌≤◌, refl, inl, inr, arith}
use Rattle.keymap_store.specs.declared.store.Work.{Work}
use Rattle.keymap_store.specs.declared.store.Work.TheVariants as Works
use Rattle.page_turnover.specs.Steps.{CountsAs}
use Rattle.usb_keyboard.specs.Uses.{UsesAtMost}

module _ {F : Type 0} (operations : F → ℕ) (healthy : F → ℕ → Type 0) where
  pub uses_none : (flash : F) → UsesAtMost operations healthy 0 flash flash
  uses_none flash = record {
    made = 0;
    few = omega arith;
    counted = let z : operations flash + 0 ≡ operations flash = omega arith in rw z refl;
    healthy = λ n h. let z : n + 0 ≡ n = omega arith in rw z at h;
  }

  abbrev pub uses_up_to : (less most : ℕ) (old middle new : F) → less ≤ most → new ≡ middle → UsesAtMost operations healthy less old middle → UsesAtMost operations healthy most old new
  uses_up_to less most old middle new l e u =
      let f = u.few in
      record { made = u.made; few = omega (arith, l, f); counted = rw e u.counted; healthy = λ n h. rw e (u.healthy n h) }

  -- enough for so many is enough for those that were made
  pub healthy_for : (made most : ℕ) (flash : F) → made ≤ most → (n : ℕ) × healthy flash (n + most) → (n : ℕ) × healthy flash (n + made)
  healthy_for made most flash l h =
      let e : h.0 + most ≡ h.0 + (most - made) + made = omega (arith, l) in
      (h.0 + (most - made), rw e at h.1)

  -- a step more: what it uses, that it does not fail where the flash was healthy for all of it, and that it was so for what came before
  pub record UsesMore (less : ℕ) (old new : F) (work : Work) (before : ℕ) : Type 0 where
    pub uses : UsesAtMost operations healthy (less + 1) old new
    pub whole : (n : ℕ) × healthy old (n + uses.made) → work ≢ Works.Failed
    pub enough : (n : ℕ) × healthy old (n + uses.made) → (n : ℕ) × healthy old (n + before)

  uses_idle : (less : ℕ) (old middle new : F) (work : Work) (u : UsesAtMost operations healthy less old middle) → work ≡ Works.Idle → (work ≡ Works.Idle → new ≡ middle) → UsesMore less old new work u.made
  uses_idle less old middle new work u i same = record {
    uses = uses_up_to less (less + 1) old middle new (omega arith) (same i) u;
    whole = λ h e. cc;
    enough = λ h. h;
  }

  uses_one : (less : ℕ) (old middle new : F) (work : Work) (u : UsesAtMost operations healthy less old middle) → work ≢ Works.Idle → operations new ≡ (operations middle + 1) % 2 ^ 64
      → ((n : ℕ) → healthy middle (n + 1) → (work ≢ Works.Idle → healthy new n) × (work ≢ Works.Failed)) → UsesMore less old new work u.made
  uses_one less old middle new work u i one step =
      let f = u.few in
      let c = u.counted in
      let more : (n : ℕ) → healthy old (n + (u.made + 1)) → healthy middle (n + 1) = λ n h. let z : n + (u.made + 1) ≡ n + 1 + u.made = omega arith in u.healthy (n + 1) (rw z at h) in
      record {
        uses = record { made = u.made + 1; few = omega (arith, f); counted = omega (arith, one, c); healthy = λ n h. (step n (more n h)).0 i };
        whole = λ h. (step h.0 (more h.0 h.1)).1;
        enough = λ h. (h.0 + 1, let z : h.0 + (u.made + 1) ≡ h.0 + 1 + u.made = omega arith in rw z at h.1);
      }

  idle_or_not : (work : Work) → (work ≡ Works.Idle) ⊎ (work ≢ Works.Idle)
  idle_or_not Works.Idle = inl refl
  idle_or_not Works.Working = inr (λ e. cc)
  idle_or_not Works.Settled = inr (λ e. cc)
  idle_or_not Works.Failed = inr (λ e. cc)

  pub uses_more : (less : ℕ) (old middle new : F) (work : Work) (u : UsesAtMost operations healthy less old middle) (faults faults_after : ℕ) → (work ≡ Works.Idle → new ≡ middle)
      → CountsAs (work ≡ Works.Idle) (work ≡ Works.Failed) (operations middle) (operations new) faults faults_after
      → ((n : ℕ) → healthy middle (n + 1) → (work ≢ Works.Idle → healthy new n) × (work ≢ Works.Failed)) → UsesMore less old new work u.made
  uses_more less old middle new work u faults faults_after same c step = elim (idle_or_not work) [
    | inl i ↦ uses_idle less old middle new work u i same
    | inr i ↦ uses_one less old middle new work u i (c.one i) step
  ]
