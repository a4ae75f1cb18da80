-- Trusted: the standard default codes.
use Rattle.std.specs.Prelude.{◌≡◌, ℕ, ◌+◌, ◌-◌, ◌==◌, Bool, true, false, refl, nat_lt, if◌then◌else◌}
use Rattle.layers.specs.Codes.{keys, transparent, is_code, all_below, DefaultCodes}

-- of layer 0 the usages from 04h on and, from key 88 on, the modifiers; the other layers are transparent
abbrev pub code_if_first : Bool → ℕ → ℕ
code_if_first first key = if first then (if nat_lt key 88 then 0x04 + key else 0xE0 + (key - 88)) else transparent

-- each of them is a code
pub are_codes : (first : Bool) → all_below (λ key. is_code (code_if_first first key)) keys ≡ true
unfolding all_below
are_codes true = refl
are_codes false = refl

-- the standard default codes
abbrev pub standard : DefaultCodes
standard = record { at_first = λ layer. code_if_first (layer == 0); are_codes = λ layer. are_codes (layer == 0) }
