-- The log after an operation that does not read as intended.
use Rattle.std.proofs.Common.{◌≡◌, ◌∙◌, ℕ, ◌+◌, ◌-◌, ◌<◌, ◌⊎◌, refl, arith, List, Option, Some, None, MatchOption, inl, inr}
use Rattle.std.specs.Prelude.{IsSomeAnd}
use Rattle.std.proofs.lemmas.Bool.{cases_lt, cases_eq}
use Rattle.records.specs.declared.Slot.{Slot}
use Rattle.records.specs.declared.Slot.TheVariants.{Free, Good, Spoiled}
use Rattle.records.specs.Slots.{slot_of}
use Rattle.flash_model.specs.Image.{slot_at, IsImage}
use Rattle.page_turnover.specs.declared.log.ActivePage.{ActivePage}
use Rattle.page_turnover.specs.declared.log.stepping.Step.{Step}
use Rattle.page_turnover.specs.declared.log.stepping.Step.TheVariants.{Failed}
use Rattle.page_turnover.specs.declared.operation.Operation.{Operation}
use Rattle.page_turnover.specs.Value.{LogValue, Rest}
use Rattle.page_turnover.specs.Active.{active}
use Rattle.page_turnover.specs.Words.{IsTail}
use Rattle.page_turnover.specs.representation.Log.{Describes, IsHeld}
use Rattle.page_turnover.specs.Next.{next_operation, MayMake, ReadsBack}
use Rattle.page_turnover.specs.Steps.{EndsAs}
use Rattle.page_turnover.specs.representation.Made.{IsPassedOver}
use Rattle.page_turnover.proofs.Kept.{still_usable}
use Rattle.page_turnover.proofs.Endings.{usable_of}
use Rattle.page_turnover.proofs.Planning.{next_is}
use Rattle.page_turnover.proofs.Leaving.{Spares, spares, tail_in, next_pending}

free_or_not : (slot : Slot) → (slot ≡ Free) ⊎ (slot ≡ Free → ⊥)
free_or_not Free = inl refl
free_or_not (Good word) = inr (λ e. cc)
free_or_not Spoiled = inr (λ e. cc)

-- where the tail slot alone may have changed
abbrev pub SparesSlot : List ℕ → List ℕ → ℕ → ℕ → Type 0
SparesSlot old new page slot = (k : ℕ) → k < 512 → (k ≡ slot → ⊥) → slot_at new page k ≡ slot_at old page k

tail_stays : (old new : List ℕ) (page tail : ℕ) → IsTail old page tail → SparesSlot old new page tail → (tail < 512 → slot_of (slot_at new page tail) ≡ Free) → IsTail new page tail
tail_stays old new page tail h same free = record {
  low = h.low;
  high = h.high;
  free = λ s a b. elim (cases_eq s tail) [
    | inl e ↦ rw e (free (omega arith))
    | inr d ↦ rw (same s b d) (h.free s a b)
  ];
  used = λ l e. h.used l (rw (same (tail - 1) (omega (arith, h.high)) (λ f. omega arith)) at e);
}

tail_passes : (old new : List ℕ) (page tail : ℕ) → tail < 512 → IsTail old page tail → SparesSlot old new page tail → (slot_of (slot_at new page tail) ≡ Free → ⊥) → IsTail new page (tail + 1)
tail_passes old new page tail low h same used = record {
  low = omega arith;
  high = omega arith;
  free = λ s a b. rw (same s b (λ e. omega arith)) (h.free s (omega arith) b);
  used = λ l e. let back : tail + 1 - 1 ≡ tail = omega arith in used (rw back at e);
}

passed_tail : (old new : List ℕ) (a b : ActivePage) → IsTail old a.page a.tail → IsPassedOver new a b → SparesSlot old new a.page a.tail → IsTail new a.page b.tail
passed_tail old new a b h p same = elim (cases_lt a.tail 512) [
  | inl l ↦ elim (free_or_not (slot_of (slot_at new a.page a.tail))) [
    | inl f ↦ rw (p.free l f) (tail_stays old new a.page a.tail h same (λ m. f))
    | inr n ↦ rw (p.used l n) (tail_passes old new a.page a.tail l h same n)
  ]
  | inr g ↦ rw (p.full (λ l. omega arith)) (tail_stays old new a.page a.tail h same (λ m. absurd (omega arith)))
]

held_passed : (old new : List ℕ) (a b : ActivePage) → IsHeld old a → IsPassedOver new a b → Spares old new a.tail → IsHeld new b
held_passed old new a b h p s = record {
  is_active = rw (p.page_is, p.seq_is) (s.keeps.active_is ∙ h.is_active);
  format_is = rw p.format_is (s.keeps.format_is ∙ h.format_is);
  is_tail = rw p.page_is (passed_tail old new a b h.is_tail p (λ k l n. s.slots a.page a.seq k h.is_active l n));
}

active_passed : (old new : List ℕ) (before after : Option ActivePage) → MatchOption before (active old ≡ None) (λ a. IsHeld old a) → MatchOption before (after ≡ None) (λ a. IsSomeAnd after (λ b. IsPassedOver new a b)) → Spares old new (tail_in before) → MatchOption after (active new ≡ None) (λ a. IsHeld new a)
active_passed old new None after h e s = rw e (s.keeps.active_is ∙ h)
active_passed old new (Some a) None h p s = absurd p
active_passed old new (Some a) (Some b) h p s = held_passed old new a b h p s

pub failed_ends : (old : List ℕ) (before : LogValue) (operation : Operation) (step : Step) (new : List ℕ) (after : LogValue) → Describes old before → next_operation old before ≡ Some operation → IsImage new → MayMake old operation new × (ReadsBack operation new → ⊥)
    → MatchOption before.active (after.active ≡ None) (λ a. IsSomeAnd after.active (λ b. IsPassedOver new a b)) → after.unsound ≡ before.unsound → after.task ≡ Rest → step ≡ Failed → EndsAs old before step new after
failed_ends old before operation step new after d e i g passed unsound rests failed =
    let s : Spares old new (tail_in before.active) = spares old before operation new d e i g.0 g.1 in
    let pending = next_pending old before operation (next_is old before operation e) in
    let u = usable_of old before.task pending d.task_is in
    record {
      describes = record {
        whole = i;
        active_is = active_passed old new before.active after.active d.active_is passed s;
        unsound_is = rw unsound (still_usable old new before.unsound d.unsound_is u (s.usable u));
        task_is = rw rests tt;
      };
      done = λ n. absurd (n failed);
      pending = λ x. pending;
      rests = λ x. rests;
      kept = λ x. s.keeps;
    }
