-- A command that changes nothing, and one that changes something.
use Rattle.std.proofs.Common.{◌≡◌, ◌≢◌, ℕ, ◌<◌, ◌==◌, ◌||◌, Bool, true, false, not, zero, suc, [], ◌∷◌, refl, arith, inl, inr}
use Rattle.std.proofs.lemmas.Bool.{cases_eq}
use Rattle.std.proofs.lemmas.Bool.Decides.{nat_tests}
use Rattle.layers.specs.Codes.{layers, keys, DefaultCodes}
use Rattle.layers.specs.Entries.{changed, ChangesSome, ChangesNothing}
use Rattle.layers.specs.declared.command.Command.{Command}
use Rattle.layers.specs.Held.{any_below}
use Rattle.keyboard.specs.Fate.{changes}

or_false : (a b : Bool) → (a || b) ≡ false → (a ≡ false) × (b ≡ false)
or_false true b e = cc
or_false false b e = (refl, e)

or_true : (a b : Bool) → a ≡ true → (a || b) ≡ true
or_true true b e = refl
or_true false b e = cc

or_later : (a b : Bool) → b ≡ true → (a || b) ≡ true
or_later true b e = refl
or_later false b e = e

-- no number below n passes
pub any_below-false : (n : ℕ) (test : ℕ → Bool) → any_below test n ≡ false → (k : ℕ) → k < n → test k ≡ false
unfolding any_below
any_below-false zero test e k l = absurd (omega arith)
any_below-false (suc n) test e k l =
    elim (cases_eq k n) [
      | inl same ↦ rw same ((or_false (test n) (any_below test n) e).0)
      | inr other ↦ any_below-false n test ((or_false (test n) (any_below test n) e).1) k (omega arith)
    ]

-- one that passes is enough
pub any_below-true : (n : ℕ) (test : ℕ → Bool) (k : ℕ) → k < n → test k ≡ true → any_below test n ≡ true
unfolding any_below
any_below-true zero test k l t = absurd (omega arith)
any_below-true (suc n) test k l t =
    elim (cases_eq k n) [
      | inl same ↦ or_true (test n) (any_below test n) (rw (← same) t)
      | inr other ↦ or_later (test n) (any_below test n) (any_below-true n test k (omega arith) t)
    ]

not_false : (a b : ℕ) → not (a == b) ≡ false → a ≡ b
not_false a b e = grind (arith, nat_tests)

not_true : (a b : ℕ) → a ≢ b → not (a == b) ≡ true
not_true a b n = grind (arith, nat_tests)

none_below : (n : ℕ) (test : ℕ → Bool) → ((k : ℕ) → k < n → test k ≡ false) → any_below test n ≡ false
unfolding any_below
none_below zero test h = refl
none_below (suc n) test h = rw (h n (omega arith)) (none_below n test (λ k l. h k (omega arith)))

not_same : (a b : ℕ) → a ≡ b → not (a == b) ≡ false
not_same a b e = grind (arith, nat_tests)

module _ (defaults : DefaultCodes) where
  pub changes-false : (entries : ℕ → ℕ → ℕ) (command : Command) → changes defaults entries command ≡ false → (layer key : ℕ) → layer < layers → key < keys → changed defaults entries (command ∷ []) layer key ≡ entries layer key
  unfolding changes
  changes-false entries command e layer key l k =
      not_false (changed defaults entries (command ∷ []) layer key) (entries layer key)
      (any_below-false keys (λ key. not (changed defaults entries (command ∷ []) layer key == entries layer key))
      (any_below-false layers (λ layer. any_below (λ key. not (changed defaults entries (command ∷ []) layer key == entries layer key)) keys) e layer l) key k)

  pub changes-some : (entries : ℕ → ℕ → ℕ) (command : Command) → ChangesSome defaults entries command → changes defaults entries command ≡ true
  unfolding changes
  changes-some entries command s =
      any_below-true layers (λ layer. any_below (λ key. not (changed defaults entries (command ∷ []) layer key == entries layer key)) keys) s.layer s.in_layers
      (any_below-true keys (λ key. not (changed defaults entries (command ∷ []) s.layer key == entries s.layer key)) s.key s.in_keys
      (not_true (changed defaults entries (command ∷ []) s.layer s.key) (entries s.layer s.key) s.differs))

  pub changes-nothing : (entries : ℕ → ℕ → ℕ) (command : Command) → ChangesNothing defaults entries command → changes defaults entries command ≡ false
  unfolding changes
  changes-nothing entries command s =
      none_below layers (λ layer. any_below (λ key. not (changed defaults entries (command ∷ []) layer key == entries layer key)) keys)
      (λ layer l. none_below keys (λ key. not (changed defaults entries (command ∷ []) layer key == entries layer key))
      (λ key k. not_same (changed defaults entries (command ∷ []) layer key) (entries layer key) (s.each layer key l k)))
