use Rattle.std.proofs.Common.{◌≡◌, ℕ, ◌-◌, ◌*◌, ◌/◌, ◌%◌, refl, arith, inl, inr}
use Rattle.std.specs.Prelude.{◌==◌}
use Rattle.std.proofs.lemmas.Bool.{cases_eq, eq-eqb, ne_eqb}
use Rattle.descriptor_parse.specs.Tags.{tag_of}
use Rattle.descriptor_parse.specs.representation.TagTable.{tag_by}

scaled : (p q k : ℕ) → p ≡ 4 * q → (p == 4 * k) ≡ (q == k)
scaled p q k e =
    elim (cases_eq q k) [
      | inl s ↦ rw (eq-eqb q k s, eq-eqb p (4 * k) (omega arith)) refl
      | inr n ↦ rw (ne_eqb q k n, ne_eqb p (4 * k) (λ s. n (omega arith))) refl
    ]

-- a tag by a quarter of its prefix
pub tag_quarter : (prefix : ℕ) → tag_of prefix ≡ tag_by (prefix / 4)
unfolding tag_of
tag_quarter prefix =
    let e : prefix - prefix % 4 ≡ 4 * (prefix / 4) = omega arith in
    rw (scaled (prefix - prefix % 4) (prefix / 4) 32 e, scaled (prefix - prefix % 4) (prefix / 4) 36 e, scaled (prefix - prefix % 4) (prefix / 4) 44 e, scaled (prefix - prefix % 4) (prefix / 4) 40 e, scaled (prefix - prefix % 4) (prefix / 4) 48 e, scaled (prefix - prefix % 4) (prefix / 4) 1 e, scaled (prefix - prefix % 4) (prefix / 4) 5 e, scaled (prefix - prefix % 4) (prefix / 4) 9 e, scaled (prefix - prefix % 4) (prefix / 4) 29 e, scaled (prefix - prefix % 4) (prefix / 4) 33 e, scaled (prefix - prefix % 4) (prefix / 4) 37 e, scaled (prefix - prefix % 4) (prefix / 4) 41 e, scaled (prefix - prefix % 4) (prefix / 4) 45 e, scaled (prefix - prefix % 4) (prefix / 4) 2 e, scaled (prefix - prefix % 4) (prefix / 4) 6 e, scaled (prefix - prefix % 4) (prefix / 4) 10 e, scaled (prefix - prefix % 4) (prefix / 4) 42 e) refl
