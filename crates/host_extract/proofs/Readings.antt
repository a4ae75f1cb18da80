use Rattle.std.proofs.Common.{◌≡◌, ℕ, ◌⊎◌, List, [], ◌∷◌, ◌++◌, arith, inl, inr}
use Rattle.std.specs.Prelude.{Contains}
use Rattle.std.proofs.lemmas.List.Elements.{Contains-append_left, Contains-append_right, Contains-append_cases}
use Rattle.host_extract.specs.declared.reading.Found.{Found}
use Rattle.host_extract.specs.Pressed.{IsRead}

-- ---- what is read in two lists in a row

pub read-left : (xs ys : List Found) (u : ℕ) → IsRead xs u → IsRead (xs ++ ys) u
read-left xs ys u (r, c, e, v) = (r, Contains-append_left xs ys r c, e, v)

pub read-right : (xs ys : List Found) (u : ℕ) → IsRead ys u → IsRead (xs ++ ys) u
read-right xs ys u (r, c, e, v) = (r, Contains-append_right xs ys r c, e, v)

pub read-cases : (xs ys : List Found) (u : ℕ) → IsRead (xs ++ ys) u → IsRead xs u ⊎ IsRead ys u
read-cases xs ys u (r, c, e, v) = elim (Contains-append_cases xs ys r c) [
  | inl l ↦ inl (r, l, e, v)
  | inr l ↦ inr (r, l, e, v)
]

pub one-reading : (x r : Found) → Contains (x ∷ []) r → x ≡ r
one-reading x r (k, l, e) = let z : k ≡ 0 = omega arith in rw z at e

pub none-read : (u : ℕ) → IsRead [] u → ⊥
none-read u (r, (k, l, e), s, v) = omega arith
