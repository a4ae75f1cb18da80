-- A status stage makes fewer steps than the count of faults wraps at.
use Rattle.std.proofs.Common.{◌≡◌, ◌≢◌, ◌⊎◌, ℕ, zero, suc, ◌+◌, ◌*◌, ◌/◌, ◌%◌, ◌^◌, ◌≤◌, length, List, [], ◌∷◌, refl, sym, ap, ◌∙◌, inl, inr, arith}
use Rattle.std.proofs.Math.Nat.{mod-add-mod, div-add-mod}
use Rattle.keymap_store.specs.declared.store.Work.{Work}
use Rattle.keymap_store.specs.declared.store.Work.TheVariants as Works
use Rattle.page_turnover.specs.Steps.{CountsAs}
use Rattle.keyboard.specs.Single.{NoneFails}
use Rattle.usb_keyboard.specs.Whole.{put_off}

-- one more fault, modulo 2^64
abbrev raised : ℕ → ℕ
raised faults = (faults + 1) % 2 ^ 64

abbrev pub raised_by : ℕ → ℕ → ℕ
raised_by zero faults = faults
raised_by (suc count) faults = raised (raised_by count faults)

-- these steps raised the count so, and where they did not none of them failed
pub record Raises (steps : List (Work × List ℕ)) (old new : ℕ) : Type 0 where
  pub count : ℕ
  pub few : count ≤ length steps
  pub new_is : new ≡ raised_by count old
  pub none : count ≡ 0 → NoneFails (put_off steps)

pub no_steps : (old : ℕ) → Raises [] old old
no_steps old = record { count = 0; few = omega arith; new_is = refl; none = λ z. tt }

kept : (steps : List (Work × List ℕ)) (work : Work) (image : List ℕ) (old new newer : ℕ) → Raises steps old new → work ≢ Works.Failed → newer ≡ new → Raises ((work, image) ∷ steps) old newer
kept steps work image old new newer r w e = let l = r.few in record { count = r.count; few = omega (arith, l); new_is = e ∙ r.new_is; none = λ z. (w, r.none z) }

not_none : (count : ℕ) → suc count ≡ 0 → ⊥
not_none count e = omega (arith, e)

more : (steps : List (Work × List ℕ)) (work : Work) (image : List ℕ) (old new newer : ℕ) → Raises steps old new → newer ≡ raised new → Raises ((work, image) ∷ steps) old newer
more steps work image old new newer r e =
    let l = r.few in record { count = suc r.count; few = omega (arith, l); new_is = e ∙ ap raised r.new_is; none = λ z. absurd (not_none r.count z) }

either : (steps : List (Work × List ℕ)) (work : Work) (image : List ℕ) (old new newer : ℕ) → Raises steps old new → work ≢ Works.Failed → (newer ≡ new) ⊎ (newer ≡ raised new) → Raises ((work, image) ∷ steps) old newer
either steps work image old new newer r w (inl e) = kept steps work image old new newer r w e
either steps work image old new newer r w (inr e) = more steps work image old new newer r e

idle_not : Works.Idle ≡ Works.Failed → ⊥
idle_not e = cc

working_not : Works.Working ≡ Works.Failed → ⊥
working_not e = cc

settled_not : Works.Settled ≡ Works.Failed → ⊥
settled_not e = cc

pub one_more : (steps : List (Work × List ℕ)) (work : Work) (image : List ℕ) (operations operations_after old new newer : ℕ) → Raises steps old new
    → CountsAs (work ≡ Works.Idle) (work ≡ Works.Failed) operations operations_after new newer → Raises ((work, image) ∷ steps) old newer
one_more steps Works.Idle image operations operations_after old new newer r c = kept steps Works.Idle image old new newer r idle_not (c.no_fault refl)
one_more steps Works.Working image operations operations_after old new newer r c = either steps Works.Working image old new newer r working_not (c.read_back working_not)
one_more steps Works.Settled image operations operations_after old new newer r c = either steps Works.Settled image old new newer r settled_not (c.read_back settled_not)
one_more steps Works.Failed image operations operations_after old new newer r c = more steps Works.Failed image old new newer r (c.fault refl)

raised_is : (count faults : ℕ) → raised_by (suc count) faults ≡ (faults + suc count) % 2 ^ 64
raised_is zero faults = refl
raised_is (suc count) faults =
    let e : faults + suc count + 1 ≡ faults + suc (suc count) = omega arith in
    ap raised (raised_is count faults) ∙ mod-add-mod (faults + suc count) (2 ^ 64) 1 ∙ ap (λ (n : ℕ). n % 2 ^ 64) e

wraps : (count faults : ℕ) → suc count ≤ 388 → (faults + suc count) % 2 ^ 64 ≡ faults → ⊥
wraps count faults l e =
    let d : 2 ^ 64 * ((faults + suc count) / 2 ^ 64) + (faults + suc count) % 2 ^ 64 ≡ faults + suc count = div-add-mod (faults + suc count) (2 ^ 64) in
    omega (arith, d, e, l)

never : (count faults : ℕ) → count ≤ 388 → raised_by count faults ≡ faults → count ≡ 0
never zero faults l e = refl
never (suc count) faults l e = absurd (wraps count faults l (sym (raised_is count faults) ∙ e))

pub none_fails : (steps : List (Work × List ℕ)) (old new : ℕ) → Raises steps old new → length steps ≤ 388 → new ≡ old → NoneFails (put_off steps)
none_fails steps old new r l e = let f = r.few in r.none (never r.count old (omega (arith, f, l)) (sym r.new_is ∙ e))

-- where the count is the same, or the flash answers no fault
pub in_either : {A B C : Type 0} → (A → C) → (B → C) → A ⊎ B → C
in_either f g (inl a) = f a
in_either f g (inr b) = g b
