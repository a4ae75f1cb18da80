-- A feature report's bytes.
use Rattle.std.proofs.Common.{◌≡◌, ℕ, List, [], ◌∷◌, length, drop, get_or, refl, arith}

pub drop_six : (packet : List ℕ) → length packet ≡ 6
    → get_or packet 1 0 ∷ get_or packet 2 0 ∷ get_or packet 3 0 ∷ get_or packet 4 0 ∷ get_or packet 5 0 ∷ [] ≡ drop 1 packet
drop_six [] e = absurd (omega arith)
drop_six (a ∷ []) e = absurd (omega arith)
drop_six (a ∷ b ∷ []) e = absurd (omega arith)
drop_six (a ∷ b ∷ c ∷ []) e = absurd (omega arith)
drop_six (a ∷ b ∷ c ∷ d ∷ []) e = absurd (omega arith)
drop_six (a ∷ b ∷ c ∷ d ∷ f ∷ []) e = absurd (omega arith)
drop_six (a ∷ b ∷ c ∷ d ∷ f ∷ g ∷ []) e = refl
drop_six (a ∷ b ∷ c ∷ d ∷ f ∷ g ∷ h ∷ rest) e = absurd (omega arith)
