-- What the codes of the held keys name, after one call more.
use Rattle.std.proofs.Common.{◌≡◌, ℕ, zero, suc, ◌<◌, ◌==◌, ◌||◌, Bool, true, false, Option, Some, None, is_some, List, replicate, if◌then◌else◌, refl, arith, ap, sym, ◌∙◌, inl, inr}
use Rattle.std.specs.Prelude.{slice_index_or}
use Rattle.std.proofs.lemmas.Bool.{cases_eq, cases_lt, eq-eqb, ne_eqb}
use Rattle.std.proofs.lemmas.List.{get_or-replicate, get_or_past}
use Rattle.layers.specs.Codes.{keys, activates, names_key_usage, names_consumer}
use Rattle.layers.specs.Held.{any_below, passes, any_has}
use Rattle.layers.specs.representation.HeldRelation.{AreNamed}
use Rattle.layers.specs.Usages.{UsageSets, has_key, has_consumer}
use Rattle.layers.proofs.HeldKeys.{any_below-same}

any_below-false : (test : ℕ → Bool) (n : ℕ) → ((k : ℕ) → k < n → test k ≡ false) → any_below test n ≡ false
unfolding any_below
any_below-false test zero h = refl
any_below-false test (suc n) h = rw (h n (omega arith), any_below-false test n (λ k l. h k (omega arith))) refl

any_has-none : (codes : ℕ → Option ℕ) (test : ℕ → Bool) → ((key : ℕ) → codes key ≡ None) → any_has codes test ≡ false
any_has-none codes test h = any_below-false (λ key. passes test (codes key)) keys (λ key l. ap (λ (o : Option ℕ). passes test o) (h key))

-- no key is held, and nothing is named
pub named_none : (codes : ℕ → Option ℕ) (usages : UsageSets) (active : List Bool) → ((key : ℕ) → codes key ≡ None) → ((usage : ℕ) → has_key usages usage ≡ false)
    → ((usage : ℕ) → has_consumer usages usage ≡ false) → ((layer : ℕ) → slice_index_or active layer false ≡ false) → AreNamed codes usages active
named_none codes usages active h k c a = record {
  keys = λ usage. k usage ∙ sym (any_has-none codes (names_key_usage usage) h);
  consumer = λ usage. c usage ∙ sym (any_has-none codes (names_consumer usage) h);
  layers = record { each = λ layer l. a layer ∙ sym (any_has-none codes (activates layer) h) };
}

pub no_layer : (layer : ℕ) → slice_index_or (replicate {A = Bool} 4 false) layer false ≡ false
no_layer layer =
    elim (cases_lt layer 4) [
      | inl l ↦ get_or-replicate {A = Bool} 4 layer false false l
      | inr m ↦ get_or_past (replicate {A = Bool} 4 false) layer false m
    ]

swap_or : (a b c : Bool) → (a || (b || c)) ≡ (b || (a || c))
swap_or true true c = refl
swap_or true false c = refl
swap_or false true c = refl
swap_or false false c = refl

-- one key more that is held
any_below-put : (old new : ℕ → Option ℕ) (place code : ℕ) (test : ℕ → Bool) (n : ℕ) → old place ≡ None
    → ((other : ℕ) → new other ≡ (if place == other then Some code else old other)) → place < n
    → any_below (λ key. passes test (new key)) n ≡ (test code || any_below (λ key. passes test (old key)) n)
unfolding any_below
any_below-put old new place code test zero e p m = absurd (omega arith)
any_below-put old new place code test (suc n) e p m =
    elim (cases_eq n place) [
      | inl s ↦
          let others = any_below-same (λ key. passes test (new key)) (λ key. passes test (old key)) n
          (λ k b. ap (λ (o : Option ℕ). passes test o) (p k ∙ rw (ne_eqb place k (omega arith)) refl)) in
          let here : new place ≡ Some code = p place ∙ rw (eq-eqb place place refl) refl in
          rw (others, s, here, e) refl
      | inr d ↦
          let other : new n ≡ old n = p n ∙ rw (ne_eqb place n (λ f. d (sym f))) refl in
          rw (any_below-put old new place code test n e p (omega arith), other)
          (swap_or (passes test (old n)) (test code) (any_below (λ key. passes test (old key)) n))
    ]

none_is : (o : Option ℕ) → is_some o ≡ false → o ≡ None
none_is None e = refl
none_is (Some x) e = cc

pub named_put : (old new : ℕ → Option ℕ) (place code : ℕ) (usages after : UsageSets) (active now : List Bool) → place < keys → is_some (old place) ≡ false
    → ((other : ℕ) → new other ≡ (if place == other then Some code else old other)) → AreNamed old usages active
    → ((usage : ℕ) → has_key after usage ≡ (names_key_usage usage code || has_key usages usage))
    → ((usage : ℕ) → has_consumer after usage ≡ (names_consumer usage code || has_consumer usages usage))
    → ((layer : ℕ) → slice_index_or now layer false ≡ (activates layer code || slice_index_or active layer false))
    → AreNamed new after now
named_put old new place code usages after active now l e p a k c t =
    let free : old place ≡ None = none_is (old place) e in
    record {
      keys = λ usage. k usage ∙ ap (λ (b : Bool). names_key_usage usage code || b) (a.keys usage) ∙ sym (any_below-put old new place code (names_key_usage usage) keys free p l);
      consumer = λ usage. c usage ∙ ap (λ (b : Bool). names_consumer usage code || b) (a.consumer usage) ∙ sym (any_below-put old new place code (names_consumer usage) keys free p l);
      layers = record {
        each = λ layer m. t layer ∙ ap (λ (b : Bool). activates layer code || b) (a.layers.each layer m) ∙ sym (any_below-put old new place code (activates layer) keys free p l);
      };
    }
