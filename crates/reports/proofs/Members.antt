use Rattle.std.proofs.Common.{◌≡◌, ◌+◌, ◌-◌, ◌<◌, ◌≤◌, ℕ, zero, suc, Bool, true, false, List, [], ◌∷◌, ◌++◌, length, replicate, get_or, arith, refl, ◌∙◌, ap, inl, inr, nat_le, if◌then◌else◌, append_assoc, length-append, append-nil}
use Rattle.std.proofs.lemmas.List.{length-replicate}
use Rattle.std.proofs.Math.ListN.{set}
use Rattle.std.proofs.Math.Seq.{set-append_seam}
use Rattle.std.proofs.lemmas.Bool.{cases_eq, cases_lt}
use Rattle.std.proofs.lemmas.Bool.Decides.{nat_tests}
use Rattle.reports.specs.Wanted.{members, places_of}

-- one number more, which passes
pub members-in : (test : ℕ → Bool) (first n : ℕ) → test (first + n) ≡ true → members test first (n + 1) ≡ members test first n ++ (first + n) ∷ []
unfolding members
members-in test first n e = let s : n + 1 ≡ suc n = omega arith in rw (s, e) refl

-- or does not
pub members-out : (test : ℕ → Bool) (first n : ℕ) → test (first + n) ≡ false → members test first (n + 1) ≡ members test first n
unfolding members
members-out test first n e = let s : n + 1 ≡ suc n = omega arith in rw (s, e) (append-nil (members test first n))

pub length-members-mono : (test : ℕ → Bool) (first m n : ℕ) → m ≤ n → length (members test first m) ≤ length (members test first n)
unfolding members
length-members-mono test first m zero l = let e : m ≡ 0 = omega arith in rw e (omega arith)
length-members-mono test first m (suc n) l =
    elim (cases_eq m (suc n)) [
      | inl e ↦ rw e (omega arith)
      | inr d ↦ omega (arith, length-members-mono test first m n (omega arith), length-append (members test first n) (if test (first + n) then (first + n) ∷ [] else []))
    ]

-- the places while the loop goes over the usages: those below are there, then come zeros
pub record Placed (test : ℕ → Bool) (usage used : ℕ) (places : List ℕ) : Type 0 where
  pub from : 4 ≤ usage
  pub fits : used ≤ 6
  pub count : length (members test 4 (usage - 4)) ≡ used
  pub items : places ≡ members test 4 (usage - 4) ++ replicate (6 - used) 0

abbrev Split : (ℕ → Bool) → ℕ → Type 0
Split test usage = members test 4 (usage + 1 - 4) ≡ members test 4 (usage - 4 + 1)

next_members : (test : ℕ → Bool) (usage : ℕ) → 4 ≤ usage → Split test usage
next_members test usage l = let e : usage + 1 - 4 ≡ usage - 4 + 1 = omega arith in rw e refl

-- no usage yet
pub placed_none : (test : ℕ → Bool) → Placed test 4 0 (replicate 6 0)
unfolding members
placed_none test = record { from = omega arith; fits = omega arith; count = refl; items = refl }

-- a usage of the set, where there is a place
pub placed_in : (test : ℕ → Bool) (usage used : ℕ) (places : List ℕ) → Placed test usage used places → test usage ≡ true → (used ≡ 6 → ⊥)
    → Placed test (usage + 1) (used + 1) (set places used usage)
placed_in test usage used places p e room =
    let at : 4 + (usage - 4) ≡ usage = omega (arith, p.from) in
    let here : test (4 + (usage - 4)) ≡ true = rw at e in
    let more : members test 4 (usage + 1 - 4) ≡ members test 4 (usage - 4) ++ usage ∷ [] =
    next_members test usage p.from ∙ rw (members-in test 4 (usage - 4) here, at) refl in
    let left : 6 - used ≡ suc (6 - (used + 1)) = omega (arith, p.fits) in
    record {
      from = omega (arith, p.from);
      fits = omega (arith, p.fits);
      count = rw (more, length-append (members test 4 (usage - 4)) (usage ∷ []), p.count) refl;
      items = rw (more, p.items, left, append_assoc (members test 4 (usage - 4)) (usage ∷ []) (replicate (6 - (used + 1)) 0), ← p.count)
          (set-append_seam (members test 4 (usage - 4)) 0 (replicate (6 - (length (members test 4 (usage - 4)) + 1)) 0) usage);
    }

-- a usage that is not in the set
pub placed_out : (test : ℕ → Bool) (usage used : ℕ) (places : List ℕ) → Placed test usage used places → test usage ≡ false
    → Placed test (usage + 1) used places
placed_out test usage used places p e =
    let at : 4 + (usage - 4) ≡ usage = omega (arith, p.from) in
    let here : test (4 + (usage - 4)) ≡ false = rw at e in
    let same : members test 4 (usage + 1 - 4) ≡ members test 4 (usage - 4) =
    next_members test usage p.from ∙ members-out test 4 (usage - 4) here in
    record { from = omega (arith, p.from); fits = p.fits; count = rw same p.count; items = rw same p.items }

pub gt_test : (a b : ℕ) → b < a → nat_le a b ≡ false
gt_test a b l = grind (arith, nat_tests)

pub le_test : (a b : ℕ) → a ≤ b → nat_le a b ≡ true
le_test a b l = grind (arith, nat_tests)

-- a seventh usage
pub places-overflow : (test : ℕ → Bool) (usage used : ℕ) (places : List ℕ) → Placed test usage used places → test usage ≡ true → used ≡ 6 → usage < 165
    → replicate 6 1 ≡ places_of (members test 4 161)
places-overflow test usage used places p e full l =
    let at : 4 + (usage - 4) ≡ usage = omega (arith, p.from) in
    let here : test (4 + (usage - 4)) ≡ true = rw at e in
    let seven : 6 < length (members test 4 161) = omega (
      arith,
      p.count,
      ap length (members-in test 4 (usage - 4) here),
      length-append (members test 4 (usage - 4)) ((4 + (usage - 4)) ∷ []),
      length-members-mono test 4 (usage - 4 + 1) 161 (omega (arith, p.from)),
    ) in
    rw (gt_test (length (members test 4 161)) 6 seven) refl

-- the parts of six places
pub six_parts : (xs : List ℕ) → length xs ≡ 6 → get_or xs 0 0 ∷ get_or xs 1 0 ∷ get_or xs 2 0 ∷ get_or xs 3 0 ∷ get_or xs 4 0 ∷ get_or xs 5 0 ∷ [] ≡ xs
six_parts [] l = absurd (omega arith)
six_parts (a ∷ []) l = absurd (omega arith)
six_parts (a ∷ b ∷ []) l = absurd (omega arith)
six_parts (a ∷ b ∷ c ∷ []) l = absurd (omega arith)
six_parts (a ∷ b ∷ c ∷ d ∷ []) l = absurd (omega arith)
six_parts (a ∷ b ∷ c ∷ d ∷ e ∷ []) l = absurd (omega arith)
six_parts (a ∷ b ∷ c ∷ d ∷ e ∷ f ∷ []) l = refl
six_parts (a ∷ b ∷ c ∷ d ∷ e ∷ f ∷ g ∷ more) l = absurd (omega arith)

pub length-places_of : (usages : List ℕ) → length (places_of usages) ≡ 6
length-places_of usages = elim (cases_lt 6 (length usages)) [
  | inl many ↦ rw (gt_test (length usages) 6 many) refl
  | inr few ↦ rw (le_test (length usages) 6 few) (length-append usages (replicate (6 - length usages) 0) ∙ omega (arith, length-replicate {A = ℕ} (6 - length usages) 0))
]
