use Rattle.std.proofs.lemmas.Grind.{common_steps}
use Rattle.std.proofs.Common.{◌≡◌, ℕ, zero, suc, ◌+◌, ◌<◌, List, [], ◌∷◌, ◌++◌, get_or, refl, min, ◌^◌, ◌-◌, arith, Bool}
use Rattle.std.specs.Prelude.{if◌then◌else◌}
use Rattle.descriptor_parse.specs.declared.totals.IdReports.{IdReports}
use Rattle.descriptor_parse.specs.representation.Totals.{no_reports}

-- an ID without reports more at the end shows nowhere
pub padded : (xs : List IdReports) (i : ℕ) → get_or (xs ++ no_reports ∷ []) i no_reports ≡ get_or xs i no_reports
padded [] zero = refl
padded [] (suc i) = refl
padded (x ∷ xs) zero = refl
padded (x ∷ xs) (suc i) = padded xs i

-- to add nothing changes nothing
pub added_none : (b : Bool) (bits more : ℕ) → more ≡ 0 → bits < 2 ^ 64 → bits ≡ (if b then min (2 ^ 64 - 1) (bits + more) else bits)
added_none b bits more h1 h2 = grind (arith, common_steps)
