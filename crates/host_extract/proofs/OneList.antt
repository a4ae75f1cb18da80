use Rattle.std.proofs.Common.{◌≡◌, ℕ, zero, suc, ◌+◌, ◌<◌, ◌⊎◌, List, [], ◌∷◌, arith, refl, sym, inl, inr}
use Rattle.std.specs.Prelude.{Contains}
use Rattle.std.specs.List.Sorted.{IsStrictlyIncreasing}
use Rattle.std.proofs.lemmas.List.Kept.{AllPairs-from_increasing}
use Rattle.host_extract.specs.declared.reading.Found.{Found}
use Rattle.host_extract.specs.Pressed.{ArePressed}

pub front-or-rest : (x : ℕ) (xs : List ℕ) (u : ℕ) → Contains (x ∷ xs) u → (x ≡ u) ⊎ Contains xs u
front-or-rest x xs u (zero, l, e) = inl e
front-or-rest x xs u (suc k, l, e) = inr (k, omega arith, e)

pub in-rest : (x : ℕ) (xs : List ℕ) (u : ℕ) → Contains xs u → Contains (x ∷ xs) u
in-rest x xs u (k, l, e) = (suc k, omega arith, e)

rest-rising : (x : ℕ) (xs : List ℕ) → IsStrictlyIncreasing (x ∷ xs) → IsStrictlyIncreasing xs
rest-rising x xs r k l = let e : suc k + 1 ≡ suc (k + 1) = omega arith in rw e at (r (suc k) (omega arith))

above-front : (x : ℕ) (xs : List ℕ) (u : ℕ) → IsStrictlyIncreasing (x ∷ xs) → Contains xs u → x < u
above-front x xs u r (k, l, e) = rw e at (AllPairs-from_increasing (x ∷ xs) r 0 (suc k) u (omega arith) (omega arith))

same-front : (x y : ℕ) (xs ys : List ℕ) → IsStrictlyIncreasing (x ∷ xs) → IsStrictlyIncreasing (y ∷ ys) → Contains (y ∷ ys) x → Contains (x ∷ xs) y → x ≡ y
same-front x y xs ys rx ry a b = elim (front-or-rest y ys x a) [
  | inl e ↦ sym e
  | inr c ↦ elim (front-or-rest x xs y b) [
    | inl e ↦ e
    | inr d ↦ absurd (let p = above-front y ys x ry c in let q = above-front x xs y rx d in omega arith)
  ]
]

one-way : (x y : ℕ) (xs ys : List ℕ) (u : ℕ) → x ≡ y → IsStrictlyIncreasing (x ∷ xs) → (Contains (x ∷ xs) u → Contains (y ∷ ys) u) → Contains xs u → Contains ys u
one-way x y xs ys u e r h c = elim (front-or-rest y ys u (h (in-rest x xs u c))) [
  | inl same ↦ absurd (let p = above-front x xs u r c in omega arith)
  | inr d ↦ d
]

pub same-rising : (xs ys : List ℕ) → IsStrictlyIncreasing xs → IsStrictlyIncreasing ys → ((u : ℕ) → Contains xs u → Contains ys u) → ((u : ℕ) → Contains ys u → Contains xs u) → xs ≡ ys
same-rising [] [] rx ry f g = refl
same-rising [] (y ∷ ys) rx ry f g = absurd (let (k, l, e) = g y (0, omega arith, refl) in omega arith)
same-rising (x ∷ xs) [] rx ry f g = absurd (let (k, l, e) = f x (0, omega arith, refl) in omega arith)
same-rising (x ∷ xs) (y ∷ ys) rx ry f g =
    let e : x ≡ y = same-front x y xs ys rx ry (f x (0, omega arith, refl)) (g y (0, omega arith, refl)) in
    let t : xs ≡ ys = same-rising xs ys (rest-rising x xs rx) (rest-rising y ys ry)
    (λ u c. one-way x y xs ys u e rx (f u) c) (λ u c. one-way y x ys xs u (sym e) ry (g u) c) in
    rw (e, t) refl

pub one-list : (readings : List Found) (a b : List ℕ) → ArePressed readings a → ArePressed readings b → a ≡ b
one-list readings a b p q = same-rising a b p.rising q.rising (λ u c. (q.members u).1 ((p.members u).0 c)) (λ u c. (p.members u).1 ((q.members u).0 c))
