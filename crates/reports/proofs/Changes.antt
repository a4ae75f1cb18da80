-- Bytes that are those sent last, and a queue without a first report.
use Rattle.std.proofs.Common.{◌≡◌, ℕ, true, false, not, List, [], ◌∷◌, refl}
use Rattle.std.proofs.lemmas.Bool.{eq-eqb}
use Rattle.std.specs.Str.{bytes_eq}

pub bytes_eq-refl : (xs : List ℕ) → bytes_eq xs xs ≡ true
bytes_eq-refl [] = refl
bytes_eq-refl (x ∷ xs) = rw (eq-eqb x x refl, bytes_eq-refl xs) refl

pub unchanged : (xs : List ℕ) → false ≡ not (bytes_eq xs xs)
unchanged xs = rw (bytes_eq-refl xs) refl
