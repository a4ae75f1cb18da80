-- What the words of a compaction stand for.
use Rattle.std.proofs.Common.{◌≡◌, ◌∙◌, ℕ, zero, suc, ◌^◌, ◌<◌, ◌≤◌, refl, ap, arith, List, ◌++◌, Option, Some, None, ◌==◌, if◌then◌else◌, inl, inr}
use Rattle.std.proofs.lemmas.Bool.{cases_eq, eq-eqb, ne_eqb}
use Rattle.std.proofs.lemmas.List.{append-nil}
use Rattle.settings.specs.Words.{IsValueIfSome, IsChange, AreValues}
use Rattle.settings.specs.Settings.{changes_in, after, settled}
use Rattle.settings.specs.Copies.{kept_words, copies_below, all_copies}
use Rattle.settings.proofs.Changes.{whole, after-last, changes_in-none}

-- the value of one id more
one_id : (words : List ℕ) (id : ℕ) (value : Option (List ℕ)) (other : ℕ) → id < 2 ^ 16 → IsValueIfSome value → settled (changes_in words) id ≡ None → settled (changes_in (words ++ kept_words id value)) other ≡ (if id == other then value else settled (changes_in words) other)
one_id words id None other l v n =
    elim (cases_eq id other) [
      | inl e ↦ rw (append-nil words, eq-eqb id other e) (rw e at n)
      | inr d ↦ rw (append-nil words, ne_eqb id other d) refl
    ]
one_id words id (Some bytes) other l v n =
    let c : IsChange (record { id = id; value = Some bytes }) = record { small = l; value_is = v } in
    rw (whole words (record { id = id; value = Some bytes }) c) (after-last None (changes_in words) (record { id = id; value = Some bytes }) other)

pub below : (values : ℕ → Option (List ℕ)) (n id : ℕ) → AreValues values → n ≤ 2 ^ 16 → ((id < n → settled (changes_in (copies_below values n)) id ≡ values id) × (n ≤ id → settled (changes_in (copies_below values n)) id ≡ None))
unfolding copies_below after
below values zero id v l = (λ m. absurd (omega arith), λ m. rw changes_in-none refl)
below values (suc n) id v l =
    let h = below values n id v (omega arith) in
    let own = (below values n n v (omega arith)).1 (omega arith) in
    let o = one_id (copies_below values n) n (values n) id (omega arith) (v n) own in
    elim (cases_eq n id) [
      | inl e ↦ (λ m. o ∙ rw (eq-eqb n id e) (ap values e), λ m. absurd (omega (arith, e)))
      | inr d ↦ (λ m. o ∙ rw (ne_eqb n id d) (h.0 (omega (arith, d))), λ m. o ∙ rw (ne_eqb n id d) (h.1 (omega arith)))
    ]

pub all_of_them : (values : ℕ → Option (List ℕ)) (id : ℕ) → AreValues values → id < 2 ^ 16 → settled (changes_in (all_copies values)) id ≡ values id
all_of_them values id v l = (below values (2 ^ 16) id v (omega arith)).0 l
