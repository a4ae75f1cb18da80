-- Trusted: the keys that are held, and the codes that they have, looked up in what was pressed and released.
use Rattle.shapes.specs.Shapes.{KeyCodes}
use Rattle.std.specs.Prelude.{ℕ, zero, suc, ◌==◌, ◌&&◌, ◌||◌, not, Bool, false, if◌then◌else◌, Option, Some, None, is_none, List, [], ◌∷◌}
use Rattle.std.specs.List.{find}
use Rattle.layers.specs.Codes.{keys, none, transparent, activates}
use Rattle.layers.specs.Keymaps.{code_at}

-- a press, with the keymap at that time, and a release
pub data HeldCall : Type 0 where
  Press : (keymap : KeyCodes) (key : ℕ) → HeldCall
  Release : (key : ℕ) → HeldCall

-- some number below this one passes
unfoldable pub any_below : (ℕ → Bool) → ℕ → Bool
any_below test zero = false
any_below test (suc n) = test n || any_below test n

-- there is a code, and it passes
abbrev pub passes : (ℕ → Bool) → Option ℕ → Bool
passes test None = false
passes test (Some code) = test code

-- some key is held with a code that passes
abbrev pub any_has : (ℕ → Option ℕ) → (ℕ → Bool) → Bool
any_has codes test = any_below (λ key. passes test (codes key)) keys

-- layer 0 is active, and each other while a key with its momentary code is held
abbrev pub is_active : (ℕ → Option ℕ) → ℕ → Bool
is_active codes layer = (layer == 0) || any_has codes (activates layer)

-- the code of a key on a layer counts where the layer is active and the code is not transparent
abbrev pub counts : (ℕ → ℕ → ℕ) → (ℕ → Option ℕ) → ℕ → ℕ → Bool
counts entries codes key layer = is_active codes layer && not (entries layer key == transparent)

-- the code on a layer; none on no layer
abbrev pub code_on : (ℕ → ℕ → ℕ) → ℕ → Option ℕ → ℕ
code_on entries key None = none
code_on entries key (Some layer) = entries layer key

-- the code on the highest layer where it counts, none if it counts on no layer
unfoldable pub resolved : (ℕ → ℕ → ℕ) → (ℕ → Option ℕ) → ℕ → ℕ
resolved entries codes key = code_on entries key (find (counts entries codes key) (3 ∷ 2 ∷ 1 ∷ 0 ∷ []))

-- the code of a held key after these calls, the newest first: that of its press, by the keymap and the
-- codes of the keys that were held before it
unfoldable pub code : List HeldCall → ℕ → Option ℕ
code [] key = None
code (Press keymap pressed ∷ before) key =
    if (pressed == key) && is_none (code before key) then Some (resolved (code_at keymap) (λ other. code before other) key)
    else code before key
code (Release released ∷ before) key = if released == key then None else code before key

-- the layers that are active after these calls
abbrev pub active : List HeldCall → ℕ → Bool
active past layer = is_active (code past) layer
