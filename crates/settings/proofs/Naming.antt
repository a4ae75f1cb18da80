-- Values after some changes, and ids that nothing names.
use Rattle.std.proofs.lemmas.Grind.{common_steps}
use Rattle.std.proofs.Common.{◌≡◌, ◌∙◌, ℕ, zero, suc, ◌+◌, ◌-◌, ◌<◌, ◌≤◌, refl, sym, arith, List, [], ◌∷◌, ◌++◌, length, take, drop, get_or, Option, Some, None, inl, inr}
use Rattle.std.proofs.lemmas.Bool.{eq-eqb, ne_eqb, cases_lt}
use Rattle.std.proofs.lemmas.List.{append-nil, length-append}
use Rattle.page_turnover.specs.Words.{words}
use Rattle.settings.specs.declared.change.Change.{Change}
use Rattle.settings.specs.Words.{head_of, words_of}
use Rattle.settings.specs.Settings.{changes_in, after, settings_of, changed}
use Rattle.settings.specs.Copies.{kept_words, copies_below, NoneBetween, IsNext}
use Rattle.settings.proofs.Changes.{after-append, changes_in-word, changes_in-none}
use Rattle.settings.proofs.Tables.{front}

pub settings_of-is : (image : List ℕ) (id : ℕ) → settings_of image id ≡ after None (changes_in (words image)) id
unfolding settings_of
settings_of-is image id = refl

pub changed-is : (image : List ℕ) (changes : List Change) (id : ℕ) → after (settings_of image id) changes id ≡ changed image changes id
unfolding settings_of changed
changed-is image changes id = sym (after-append None (changes_in (words image)) changes id)

pub after-own : (value : Option (List ℕ)) (change : Change) (rest : List Change) (id : ℕ) → change.id ≡ id → after change.value rest id ≡ after value (change ∷ rest) id
unfolding after
after-own value change rest id e = rw (eq-eqb change.id id e) refl

pub after-skip : (value : Option (List ℕ)) (change : Change) (rest : List Change) (id : ℕ) → (change.id ≡ id → ⊥) → after value rest id ≡ after value (change ∷ rest) id
unfolding after
after-skip value change rest id n = rw (ne_eqb change.id id n) refl

pub after-end : (value : Option (List ℕ)) (id : ℕ) → after value [] id ≡ value
unfolding after
after-end value id = refl

pub end_of_words : (id : ℕ) → after None (changes_in []) id ≡ None
end_of_words id = rw changes_in-none (after-end None id)

pub no_head : (word : ℕ) (rest : List ℕ) (id : ℕ) → head_of word ≡ None → after None (changes_in (word ∷ rest)) id ≡ after None (changes_in rest) id
no_head word rest id e = rw (changes_in-word word rest, e) refl

-- copies of ids without a value
pub copies_gap : (values : ℕ → Option (List ℕ)) (from to : ℕ) → from ≤ to → NoneBetween values from to → copies_below values to ≡ copies_below values from
unfolding copies_below
copies_gap values from zero l n = let e : from ≡ 0 = omega arith in rw e refl
copies_gap values from (suc to) l n =
    elim (cases_lt to from) [
      | inl m ↦ (let e : from ≡ suc to = omega arith in rw e refl)
      | inr m ↦ rw (n to m (omega arith)) (append-nil (copies_below values to) ∙ copies_gap values from to m (λ id a b. n id a (omega arith)))
    ]

pub words_kept : (change : Change) (bytes : List ℕ) → change.value ≡ Some bytes → words_of change ≡ kept_words change.id (Some bytes)
unfolding words_of
words_kept change bytes e = rw e refl

-- those up to the next id that has a value
pub copies_next : (values : ℕ → Option (List ℕ)) (from : ℕ) (change : Change) → IsNext values from change → copies_below values (change.id + 1) ≡ copies_below values from ++ words_of change
unfolding copies_below
copies_next values from change h1 = grind (arith, common_steps, words_kept, copies_gap)

pub copies_grow : (values : ℕ → Option (List ℕ)) (from to : ℕ) → from ≤ to → length (copies_below values from) ≤ length (copies_below values to)
unfolding copies_below
copies_grow values from zero l = let e : from ≡ 0 = omega arith in rw e (omega arith)
copies_grow values from (suc to) l =
    elim (cases_lt to from) [
      | inl m ↦ (let e : from ≡ suc to = omega arith in rw e (omega arith))
      | inr m ↦ (let h = copies_grow values from to m in let k = length-append (copies_below values to) (kept_words to (values to)) in omega (arith, h, k))
    ]

pub copies_none : (values : ℕ → Option (List ℕ)) → 0 ≡ length (copies_below values 0)
unfolding copies_below
copies_none values = refl

-- the first change of some
pub front_own : (value : Option (List ℕ)) (changes : List Change) (change other : Change) (id : ℕ) → 1 ≤ length changes → change ≡ get_or changes 0 other → change.id ≡ id
    → after value changes id ≡ after change.value (take (length changes - 1) (drop 1 changes)) id
front_own value changes change other id h1 h2 h3 = grind (arith, common_steps, front, after-own)

pub front_skip : (value : Option (List ℕ)) (changes : List Change) (change other : Change) (id : ℕ) → 1 ≤ length changes → change ≡ get_or changes 0 other → (change.id ≡ id → ⊥)
    → after value changes id ≡ after value (take (length changes - 1) (drop 1 changes)) id
front_skip value changes change other id h1 h2 h3 = grind (arith, common_steps, front, after-skip)

pub none_left : (value : Option (List ℕ)) (changes : List Change) (id : ℕ) → length changes < 1 → after value changes id ≡ value
none_left value changes id h1 = grind (arith, common_steps, after-end)

-- an id below the best one after a name is not that name
pub not_named : (from best name id : ℕ) → from ≤ id → id < best → (from ≤ name → best ≤ name) → name ≡ id → ⊥
not_named from best name id a b n e = let m = n (omega (arith, e)) in omega (arith, m, e)

pub changed_none : (image : List ℕ) (changes : List Change) (id : ℕ) → settings_of image id ≡ None → after None changes id ≡ None → changed image changes id ≡ None
changed_none image changes id n m = sym (changed-is image changes id) ∙ rw n m
