-- The words that a compaction was given.
use Rattle.std.proofs.lemmas.Grind.{common_steps}
use Rattle.std.proofs.Common.{◌≡◌, ◌∙◌, ℕ, zero, suc, ◌+◌, ◌^◌, ◌<◌, ◌≤◌, refl, sym, ap, arith, List, [], ◌∷◌, ◌++◌, length, take, get_or, Option, None, inl, inr, append_assoc}
use Rattle.std.proofs.lemmas.Bool.{cases_lt}
use Rattle.std.proofs.lemmas.List.{append-nil, length-append, take_all, length-take-le}
use Rattle.settings.specs.declared.change.Change.{Change}
use Rattle.settings.specs.Words.{words_of}
use Rattle.settings.specs.Copies.{kept_words, copies_below, all_copies, NoneBetween, IsNext}
use Rattle.settings.specs.representation.Store.{given_words}
use Rattle.settings.proofs.Naming.{copies_gap, copies_next, copies_grow, words_kept}
use Rattle.settings.proofs.Storing.{take_next}

-- an id of whose words some were given has a value
abbrev pub Owns : (ℕ → Option (List ℕ)) → ℕ → ℕ → Type 0
Owns values from at = 0 < at → (from < 2 ^ 16) × (at < length (kept_words from (values from)))

no_value : (values : ℕ → Option (List ℕ)) (from at : ℕ) → values from ≡ None → 0 < at → at < length (kept_words from (values from)) → ⊥
no_value values from at n l o = let m : at < 0 = rw n at o in absurd (omega arith)

-- the next id that has a value is the one whose words were given
same_id : (values : ℕ → Option (List ℕ)) (from at : ℕ) (change : Change) → IsNext values from change → 0 < at → Owns values from at → from ≡ change.id
same_id values from at change h1 h2 h3 = grind (arith, common_steps, cases_lt, no_value)

pub kept_is : (values : ℕ → Option (List ℕ)) (from : ℕ) (change : Change) → IsNext values from change → kept_words change.id (values change.id) ≡ words_of change
kept_is values from change n = rw n.is (sym (words_kept change n.bytes n.value_is))

-- what was given, by the next id that has a value
given_by : (values : ℕ → Option (List ℕ)) (from at : ℕ) (change : Change) → IsNext values from change → Owns values from at → given_words values from at ≡ copies_below values change.id ++ take at (words_of change)
given_by values from at change h1 h2 = grind (arith, common_steps, copies_gap, same_id, kept_is)

pub next_inside : (values : ℕ → Option (List ℕ)) (from at : ℕ) (change : Change) → IsNext values from change → Owns values from at → 0 < length (words_of change) → at < length (words_of change)
next_inside values from at change h1 h2 h3 = grind (arith, common_steps)

given_one : (values : ℕ → Option (List ℕ)) (from at : ℕ) (change : Change) → IsNext values from change → Owns values from at → at < length (words_of change)
    → given_words values from at ++ get_or (words_of change) at 0 ∷ [] ≡ copies_below values change.id ++ take (at + 1) (words_of change)
given_one values from at change n o l =
    rw (given_by values from at change n o) (append_assoc (copies_below values change.id) (take at (words_of change)) (get_or (words_of change) at 0 ∷ []) ∙ ap (λ (t : List ℕ). copies_below values change.id ++ t) (take_next (words_of change) at l))

-- one word more, which is not the last one of its id
pub given_more : (values : ℕ → Option (List ℕ)) (from at : ℕ) (change : Change) → IsNext values from change → Owns values from at → at < length (words_of change)
    → given_words values from at ++ get_or (words_of change) at 0 ∷ [] ≡ given_words values change.id (at + 1)
given_more values from at change n o l = given_one values from at change n o l ∙ rw (kept_is values from change n) refl

-- or is
pub given_last : (values : ℕ → Option (List ℕ)) (from at : ℕ) (change : Change) → IsNext values from change → Owns values from at → at < length (words_of change) → length (words_of change) ≤ at + 1
    → given_words values from at ++ get_or (words_of change) at 0 ∷ [] ≡ given_words values (change.id + 1) 0
given_last values from at change n o l m =
    let all : take (at + 1) (words_of change) ≡ words_of change = take_all (at + 1) (words_of change) m in
    let next : copies_below values (change.id + 1) ≡ copies_below values change.id ++ words_of change =
    copies_next values from change n ∙ rw (copies_gap values from change.id n.after n.first) refl in
    given_one values from at change n o l ∙ rw (all, next) (sym (append-nil (copies_below values change.id ++ words_of change)))

-- no id is left: all words were given
pub given_all : (values : ℕ → Option (List ℕ)) (from at : ℕ) → from ≤ 2 ^ 16 → Owns values from at → NoneBetween values from (2 ^ 16) → given_words values from at ≡ all_copies values
given_all values from at h1 h2 h3 = grind (arith, common_steps, copies_gap, append-nil, no_value)

kept_more : (values : ℕ → Option (List ℕ)) (from : ℕ) → copies_below values (suc from) ≡ copies_below values from ++ kept_words from (values from)
unfolding copies_below
kept_more values from = refl

-- never more than all of them
pub given_few : (values : ℕ → Option (List ℕ)) (from at : ℕ) → from ≤ 2 ^ 16 → Owns values from at → length (given_words values from at) ≤ length (all_copies values)
given_few values from zero l o = rw (append-nil (copies_below values from)) (copies_grow values from (2 ^ 16) l)
given_few values from (suc at) l o =
    let m = o (omega arith) in
    let kept : ℕ = length (kept_words from (values from)) in
    let a : length (given_words values from (suc at)) ≡ length (copies_below values from) + length (take (suc at) (kept_words from (values from))) = length-append (copies_below values from) (take (suc at) (kept_words from (values from))) in
    let b : length (take (suc at) (kept_words from (values from))) ≡ suc at = length-take-le (suc at) (kept_words from (values from)) (omega (arith, m.1)) in
    let c : length (copies_below values from ++ kept_words from (values from)) ≡ length (copies_below values from) + length (kept_words from (values from)) = length-append (copies_below values from) (kept_words from (values from)) in
    let d : length (copies_below values (suc from)) ≡ length (copies_below values from ++ kept_words from (values from)) = ap (λ (t : List ℕ). length t) (kept_more values from) in
    let e : length (copies_below values (suc from)) ≤ length (all_copies values) = copies_grow values (suc from) (2 ^ 16) (omega (arith, m.0)) in
    omega (arith, a, b, c, d, e, m.1)

-- what is given while a word is missing is fewer than all
pub given_fewer : (values : ℕ → Option (List ℕ)) (from at : ℕ) (change : Change) → IsNext values from change → Owns values from at → at < length (words_of change) → length (given_words values from at) < length (all_copies values)
given_fewer values from at change n o l =
    let s = n.small in
    let a : length (given_words values from at ++ get_or (words_of change) at 0 ∷ []) ≡ length (given_words values from at) + 1 = length-append (given_words values from at) (get_or (words_of change) at 0 ∷ []) in
    elim (cases_lt (at + 1) (length (words_of change))) [
      | inl m ↦ (let e = ap (λ (t : List ℕ). length t) (given_more values from at change n o l) in
          let b = given_few values change.id (at + 1) (omega arith) (λ z. (n.small, rw (kept_is values from change n) m)) in
          omega (arith, a, e, b))
      | inr m ↦ (let e = ap (λ (t : List ℕ). length t) (given_last values from at change n o l m) in
          let b = given_few values (change.id + 1) 0 (omega arith) (λ z. absurd (omega arith)) in
          omega (arith, a, e, b))
    ]
