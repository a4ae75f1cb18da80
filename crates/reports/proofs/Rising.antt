use Rattle.std.proofs.Common.{◌≡◌, ◌+◌, ◌-◌, ◌<◌, ◌≤◌, ℕ, zero, suc, Bool, true, false, List, [], ◌∷◌, ◌++◌, length, get_or, arith, refl, ◌∙◌, inl, inr, length-append, append-nil}
use Rattle.std.specs.List.{Contains}
use Rattle.std.specs.List.Sorted.{IsStrictlyIncreasing}
use Rattle.std.proofs.Math.ListN.{get_or-append}
use Rattle.std.proofs.Math.Seq.{get_or-append_seam}
use Rattle.std.proofs.lemmas.Bool.{cases_lt, cases_Bool}
use Rattle.std.proofs.lemmas.List.Elements.{Contains-append_cases}
use Rattle.reports.specs.Wanted.{members, listed}
use Rattle.reports.specs.Layouts.{AreListed}
use Rattle.reports.proofs.LayoutTheorems.{members-length, members-at}

one_in : (test : ℕ → Bool) (first n : ℕ) → test (first + n) ≡ true → members test first (suc n) ≡ members test first n ++ (first + n) ∷ []
unfolding members
one_in test first n e = rw e refl

one_out : (test : ℕ → Bool) (first n : ℕ) → test (first + n) ≡ false → members test first (suc n) ≡ members test first n
unfolding members
one_out test first n e = rw e (append-nil (members test first n))

-- the items of a list with one more at its end
last_item : (xs : List ℕ) (x k d : ℕ) → k ≡ length xs → get_or (xs ++ x ∷ []) k d ≡ x
last_item xs x k d e = rw e (get_or-append_seam xs x [] d)

no_members : (test : ℕ → Bool) (first k : ℕ) → k < length (members test first 0) → ⊥
unfolding members
no_members test first k l = omega arith

members-below : (test : ℕ → Bool) (first n k : ℕ) → k < length (members test first n) → get_or (members test first n) k 0 < first + n
members-below test first zero k l = absurd (no_members test first k l)
members-below test first (suc n) k l = elim (cases_Bool (test (first + n))) [
  | inr out ↦ rw (one_out test first n out) (omega (arith, members-below test first n k (rw (one_out test first n out) at l)))
  | inl in_set ↦ rw (one_in test first n in_set) (elim (cases_lt k (length (members test first n))) [
    | inl old ↦ rw (get_or-append (members test first n) ((first + n) ∷ []) 0 k old) (omega (arith, members-below test first n k old))
    | inr new ↦ rw (last_item (members test first n) (first + n) k 0
        (omega (arith, rw (one_in test first n in_set) at l, length-append (members test first n) ((first + n) ∷ [])))) (omega arith)
  ])
]

pub members-rising : (test : ℕ → Bool) (first n : ℕ) → IsStrictlyIncreasing (members test first n)
members-rising test first zero k l = absurd (no_members test first (k + 1) l)
members-rising test first (suc n) k l = elim (cases_Bool (test (first + n))) [
  | inr out ↦ rw (one_out test first n out) (members-rising test first n k (rw (one_out test first n out) at l))
  | inl in_set ↦ rw (one_in test first n in_set) (elim (cases_lt (k + 1) (length (members test first n))) [
    | inl old ↦ rw (get_or-append (members test first n) ((first + n) ∷ []) 0 k (omega arith), get_or-append (members test first n) ((first + n) ∷ []) 0 (k + 1) old)
        (members-rising test first n k old)
    | inr new ↦ (let whole : k + 1 ≡ length (members test first n) = omega (arith, rw (one_in test first n in_set) at l, length-append (members test first n) ((first + n) ∷ [])) in
        rw (get_or-append (members test first n) ((first + n) ∷ []) 0 k (omega arith), last_item (members test first n) (first + n) (k + 1) 0 whole)
        (members-below test first n k (omega arith)))
  ])
]

abbrev IsMember : (ℕ → Bool) → ℕ → ℕ → ℕ → Type 0
IsMember test first n u = (first ≤ u) × (u < first + n) × (test u ≡ true)

one_item : (x u : ℕ) → Contains (x ∷ []) u → x ≡ u
one_item x u (k, l, e) = let z : k ≡ 0 = omega arith in rw z at e

pub members-sound : (test : ℕ → Bool) (first n u : ℕ) → Contains (members test first n) u → IsMember test first n u
members-sound test first zero u (k, l, e) = absurd (no_members test first k l)
members-sound test first (suc n) u h = elim (cases_Bool (test (first + n))) [
  | inr out ↦ (let m = members-sound test first n u (rw (one_out test first n out) at h) in (m.0, omega (arith, m.1), m.2))
  | inl in_set ↦ elim (Contains-append_cases (members test first n) ((first + n) ∷ []) u (rw (one_in test first n in_set) at h)) [
    | inl old ↦ (let m = members-sound test first n u old in (m.0, omega (arith, m.1), m.2))
    | inr new ↦ (let e : first + n ≡ u = one_item (first + n) u new in (omega arith, omega arith, rw e at in_set))
  ]
]

pub members-complete : (test : ℕ → Bool) (first n u : ℕ) → IsMember test first n u → Contains (members test first n) u
members-complete test first n u (low, high, in_set) =
    let at : first + (u - first) ≡ u = omega arith in
    let here : test (first + (u - first)) ≡ true = rw at in_set in
    let l : u - first < n = omega arith in
    (length (members test first (u - first)), members-length test first (u - first) n l here, members-at test first (u - first) n u l here ∙ at)

pub listed-exactly : (keys : ℕ → Bool) → AreListed keys (listed keys)
listed-exactly keys = record {
  rising = members-rising keys 4 161;
  members = λ u. (
    λ h. let m = members-sound keys 4 161 u h in (m.0, omega (arith, m.1), m.2),
    λ m. members-complete keys 4 161 u (m.0, omega (arith, m.1), m.2),
  );
}
