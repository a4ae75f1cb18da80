-- The accepted commands after one call more.
use Rattle.std.proofs.Common.{◌≡◌, ℕ, Bool, true, false, if◌then◌else◌, Option, Some, None, List, [], ◌∷◌, ◌++◌, map, refl, ap, sym, ◌∙◌}
use Rattle.std.proofs.lemmas.List.{map-append, append-nil}
use Rattle.layers.specs.Codes.{DefaultCodes}
use Rattle.layers.specs.declared.command.Command.{Command}
use Rattle.keymap_store.specs.declared.store.Work.TheVariants.{Idle, Working, Settled, Failed}
use Rattle.keyboard.specs.Calls.{Call, Scanned, SetUp, Out, In, Polled, Worked, BusReset, image_after, keymap}
use Rattle.keyboard.specs.Fate.{Fate, works, settled, failed, fate, fate_after, ended_by, changes}
use Rattle.keyboard.specs.Commands.{Accepted, accepted, accepted_before, accepted_with, accepts}

module _ (defaults : DefaultCodes) where
  -- what a call makes of a command
  abbrev pub end_with : Call → Accepted → Accepted
  end_with call one = record { command = one.command; fate = ended_by defaults call one.fate }

  -- a settled command stays settled
  pub ended_by-settled : (call : Call) → ended_by defaults call settled ≡ settled
  ended_by-settled (Worked Idle image) = refl
  ended_by-settled (Worked Working image) = refl
  ended_by-settled (Worked Settled image) = refl
  ended_by-settled (Worked Failed image) = refl
  ended_by-settled (Scanned scan) = refl
  ended_by-settled (SetUp bytes) = refl
  ended_by-settled (Out packet answer) = refl
  ended_by-settled (In answer) = refl
  ended_by-settled (Polled answer) = refl
  ended_by-settled BusReset = refl

  -- and a failed one failed
  pub ended_by-failed : (call : Call) → ended_by defaults call failed ≡ failed
  ended_by-failed (Worked Idle image) = refl
  ended_by-failed (Worked Working image) = refl
  ended_by-failed (Worked Settled image) = refl
  ended_by-failed (Worked Failed image) = refl
  ended_by-failed (Scanned scan) = refl
  ended_by-failed (SetUp bytes) = refl
  ended_by-failed (Out packet answer) = refl
  ended_by-failed (In answer) = refl
  ended_by-failed (Polled answer) = refl
  ended_by-failed BusReset = refl

  fate_by : (b : Bool) (call : Call) (f : Fate) → (if b then ended_by defaults call f else settled) ≡ ended_by defaults call (if b then f else settled)
  fate_by true call f = refl
  fate_by false call f = sym (ended_by-settled call)

  pub fate-more : (entries : ℕ → ℕ → ℕ) (command : Command) (call : Call) (after : List Call) → fate defaults entries command (call ∷ after) ≡ ended_by defaults call (fate defaults entries command after)
  fate-more entries command call after = fate_by (changes defaults entries command) call (fate_after defaults after)

  with_more : (entries : ℕ → ℕ → ℕ) (call : Call) (after : List Call) (o : Option Command) → accepted_with defaults entries (call ∷ after) o ≡ map (end_with call) (accepted_with defaults entries after o)
  with_more entries call after None = refl
  with_more entries call after (Some command) =
      ap (λ (f : Fate). let one : Accepted = record { command = command; fate = f } in one ∷ []) (fate-more entries command call after)

  before_more : (start : List ℕ) (call : Call) (after calls : List Call) → accepted_before defaults start (call ∷ after) calls ≡ map (end_with call) (accepted_before defaults start after calls)
  before_more start call after [] = refl
  before_more start call after (c ∷ calls) =
      rw (before_more start call (after ++ c ∷ []) calls, with_more (keymap defaults (image_after start calls)) call after (accepts calls c))
      (sym (map-append (end_with call) (accepted_before defaults start (after ++ c ∷ []) calls) (accepted_with defaults (keymap defaults (image_after start calls)) after (accepts calls c))))

  -- a call ends what it ends, and may add a command
  pub accepted-more : (start : List ℕ) (call : Call) (before : List Call)
      → accepted defaults start (call ∷ before) ≡ map (end_with call) (accepted defaults start before) ++ accepted_with defaults (keymap defaults (image_after start before)) [] (accepts before call)
  unfolding accepted
  accepted-more start call before =
      ap (λ (xs : List Accepted). xs ++ accepted_with defaults (keymap defaults (image_after start before)) [] (accepts before call)) (before_more start call [] before)

  -- a call that ends no command
  pub record EndsNone (call : Call) : Type 0 where
    pub keeps : (f : Fate) → ended_by defaults call f ≡ f

  pub map-end_none : (call : Call) → EndsNone call → (xs : List Accepted) → map (end_with call) xs ≡ xs
  map-end_none call k [] = refl
  map-end_none call k (one ∷ xs) =
      ap (λ (f : Fate). let x : Accepted = record { command = one.command; fate = f } in x ∷ map (end_with call) xs) (k.keeps one.fate)
      ∙ ap (λ (ys : List Accepted). one ∷ ys) (map-end_none call k xs)

  -- a call that ends and accepts no command leaves the commands
  pub accepted-same : (start : List ℕ) (call : Call) (before : List Call) → EndsNone call → accepts before call ≡ None
      → accepted defaults start (call ∷ before) ≡ accepted defaults start before
  accepted-same start call before k n =
      accepted-more start call before
      ∙ ap (λ (o : Option Command). map (end_with call) (accepted defaults start before) ++ accepted_with defaults (keymap defaults (image_after start before)) [] o) n
      ∙ append-nil (map (end_with call) (accepted defaults start before))
      ∙ map-end_none call k (accepted defaults start before)

  -- an idle step of the flash work ends nothing, and so does one that needs more
  pub ended_by-idle : (image : List ℕ) (f : Fate) → ended_by defaults (Worked Idle image) f ≡ f
  ended_by-idle image works = refl
  ended_by-idle image settled = refl
  ended_by-idle image failed = refl

  pub ended_by-working : (image : List ℕ) (f : Fate) → ended_by defaults (Worked Working image) f ≡ f
  ended_by-working image works = refl
  ended_by-working image settled = refl
  ended_by-working image failed = refl
