-- Trusted: the codes of a keymap, and the code that each key has at first.
use Rattle.std.specs.Prelude.{◌≡◌, ℕ, zero, suc, true, ◌+◌, ◌/◌, ◌%◌, ◌==◌, ◌&&◌, ◌||◌, Bool, nat_le}

-- how many layers there are
abbrev pub layers : ℕ
layers = 4

-- how many keys there are
abbrev pub keys : ℕ
keys = 96

-- n is at least the low number and at most the high one
abbrev pub is_between : ℕ → ℕ → ℕ → Bool
is_between low high n = nat_le low n && nat_le n high

-- the code of a key that does nothing
abbrev pub none : ℕ
none = 0x0000

-- the code of a key that does what the layer below says
abbrev pub transparent : ℕ
transparent = 0x0001

-- a usage of page 07h, letters to keypad
abbrev pub is_key_usage : ℕ → Bool
is_key_usage code = is_between 0x0004 0x00A4 code

-- a modifier of page 07h
abbrev pub is_modifier : ℕ → Bool
is_modifier code = is_between 0x00E0 0x00E7 code

-- a usage of page 0Ch, 001h to 3FFh
abbrev pub is_consumer : ℕ → Bool
is_consumer code = is_between 0x4001 0x43FF code

-- a layer, 1 to 3, that is active while the key is held
abbrev pub is_momentary : ℕ → Bool
is_momentary code = is_between 0x5001 0x5003 code

-- a number is a code if it is of one of these kinds
abbrev pub is_code : ℕ → Bool
is_code code =
    (code == none) || (code == transparent) || is_key_usage code || is_modifier code || is_consumer code || is_momentary code

-- a code names a usage of page 07h that is its own number
abbrev pub names_key_usage : ℕ → ℕ → Bool
names_key_usage usage code = (is_key_usage code || is_modifier code) && (code == usage)

-- a code names this usage of page 0Ch
abbrev pub names_consumer : ℕ → ℕ → Bool
names_consumer usage code = is_consumer code && (code == 0x4000 + usage)

-- a code activates this layer
abbrev pub activates : ℕ → ℕ → Bool
activates layer code = is_momentary code && (code == 0x5000 + layer)

-- all numbers below one pass
unfoldable pub all_below : (ℕ → Bool) → ℕ → Bool
all_below test zero = true
all_below test (suc n) = test n && all_below test n

-- the codes that the entries have at first, and after a reset: one for each key on each layer
pub record DefaultCodes : Type 0 where
  pub at_first : ℕ → ℕ → ℕ
  pub are_codes : (layer : ℕ) → all_below (λ key. is_code (at_first layer key)) keys ≡ true

module _ (defaults : DefaultCodes) where
  -- the default code of a key on a layer
  abbrev pub default_code : ℕ → ℕ → ℕ
  default_code layer key = defaults.at_first layer key

  -- the default code of the entry at a place
  abbrev pub default_at : ℕ → ℕ
  default_at place = default_code (place / keys) (place % keys)
