-- The numbers that pass a test, one number more, and the keys of a scan among them.
use Rattle.std.proofs.Common.{◌≡◌, ℕ, zero, suc, ◌+◌, ◌<◌, ◌≤◌, Bool, false, List, [], ◌∷◌, ◌++◌, reverse, refl, arith, ap, ◌∙◌, inl, inr}
use Rattle.std.specs.List.{filter, range_with_len}
use Rattle.std.proofs.lemmas.Bool.{cases_Bool}
use Rattle.std.proofs.lemmas.List.{append-nil, reverse-append}
use Rattle.std.proofs.lemmas.List.Elements.{filter-append}
use Rattle.debounce.specs.declared.Scan.{Scan}
use Rattle.debounce.specs.Scans.{has, set_keys}
use Rattle.layers.specs.Codes.{keys}
use Rattle.key_reports.specs.Past.{those_below}

pub those_below-same : (f g : ℕ → Bool) (n : ℕ) → ((k : ℕ) → k < n → f k ≡ g k) → those_below f n ≡ those_below g n
unfolding those_below
those_below-same f g zero h = refl
those_below-same f g (suc n) h = rw (h n (omega arith), those_below-same f g n (λ k l. h k (omega arith))) refl

pub those_below-none : (f : ℕ → Bool) (n : ℕ) → ((k : ℕ) → k < n → f k ≡ false) → those_below f n ≡ []
unfolding those_below
those_below-none f zero h = refl
those_below-none f (suc n) h = rw (h n (omega arith)) (those_below-none f n (λ k l. h k (omega arith)))

range-more : (a n : ℕ) → range_with_len a (suc n) ≡ range_with_len a n ++ (a + n) ∷ []
range-more a zero = let e : a + 0 ≡ a = omega arith in rw e refl
range-more a (suc n) = let e : a + 1 + n ≡ a + suc n = omega arith in ap (λ (l : List ℕ). a ∷ l) (rw (← e) (range-more (a + 1) n))

pub reverse-more : (xs : List ℕ) (x : ℕ) → reverse (xs ++ x ∷ []) ≡ x ∷ reverse xs
reverse-more xs x = reverse-append xs (x ∷ [])

those-filter : (test : ℕ → Bool) (n : ℕ) → reverse (filter test (range_with_len 0 n)) ≡ those_below test n
unfolding those_below
those-filter test zero = refl
those-filter test (suc n) =
    let e : filter test (range_with_len 0 (suc n)) ≡ filter test (range_with_len 0 n) ++ filter test ((0 + n) ∷ []) = ap (filter test) (range-more 0 n) ∙ filter-append test (range_with_len 0 n) ((0 + n) ∷ []) in
    let z : 0 + n ≡ n = omega arith in
    elim (cases_Bool (test n)) [
      | inl on ↦ rw (e, z, on, reverse-more (filter test (range_with_len 0 n)) n) (ap (λ (l : List ℕ). n ∷ l) (those-filter test n))
      | inr off ↦ rw (e, z, off) (ap reverse (append-nil (filter test (range_with_len 0 n))) ∙ those-filter test n)
    ]

pub those-keys : (set : Scan) → reverse (set_keys set) ≡ those_below (has set) keys
unfolding set_keys
those-keys set = those-filter (has set) 96

-- each number is below 96
abbrev AreBelow : List ℕ → Type 0
AreBelow [] = Unit {0}
AreBelow (x ∷ xs) = (x < 96) × AreBelow xs

below-filter : (test : ℕ → Bool) (a n : ℕ) → a + n ≤ 96 → AreBelow (filter test (range_with_len a n))
below-filter test a zero l = tt
below-filter test a (suc n) l =
    elim (cases_Bool (test a)) [
      | inl on ↦ rw on (omega arith, below-filter test (a + 1) n (omega arith))
      | inr off ↦ rw off (below-filter test (a + 1) n (omega arith))
    ]

below-found : (done rest : List ℕ) (key : ℕ) → AreBelow (done ++ key ∷ rest) → key < 96
below-found [] rest key b = b.0
below-found (x ∷ done) rest key b = below-found done rest key b.1

pub key-below : (set : Scan) (done rest : List ℕ) (key : ℕ) → done ++ key ∷ rest ≡ set_keys set → key < 96
unfolding set_keys
key-below set done rest key e = below-found done rest key (rw e (below-filter (has set) 0 96 (omega arith)))
