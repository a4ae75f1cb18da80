-- Representation: what is kept of the held keys refines the calls that made it.
use Rattle.shapes.specs.Shapes.{KeyCodes}
use Rattle.std.specs.Prelude.{◌≡◌, ℕ, ◌<◌, ◌==◌, Bool, true, false, Option, Some, None, List, slice_index, slice_index_or, if◌then◌else◌}
use Rattle.layers.specs.Codes.{keys, layers, activates, names_key_usage, names_consumer}
use Rattle.layers.specs.Held.{HeldCall, code, any_has}
use Rattle.layers.specs.Usages.{UsageSets, has_bit, has_key, has_consumer}

-- a code for each key, the keys that are held as bits, 32 to a word, and whether what their codes name was named
pub record HeldValue : Type 0 where
  pub codes : KeyCodes
  pub held : List ℕ
  pub named : Bool

-- the code that is kept for a key, where it is held
unfoldable pub kept : KeyCodes → List ℕ → ℕ → Option ℕ
kept codes held key = if has_bit 32 held key then Some (slice_index codes key) else None

-- the code of each key is that of its calls, newest first
pub record HeldRefines (past : List HeldCall) (value : HeldValue) : Type 0 where
  pub each : (key : ℕ) → key < keys → kept value.codes value.held key ≡ code past key

-- these are the layers that codes activate
pub record AreActive (codes : ℕ → Option ℕ) (active : List Bool) : Type 0 where
  pub each : (layer : ℕ) → layer < layers → slice_index_or active layer false ≡ any_has codes (activates layer)

-- these are the usages that codes name, and the layers that they activate
pub record AreNamed (codes : ℕ → Option ℕ) (usages : UsageSets) (active : List Bool) : Type 0 where
  pub keys : (usage : ℕ) → has_key usages usage ≡ any_has codes (names_key_usage usage)
  pub consumer : (usage : ℕ) → has_consumer usages usage ≡ any_has codes (names_consumer usage)
  pub layers : AreActive codes active

-- the same, with what its codes name named
abbrev pub with_names : HeldValue → HeldValue
with_names value = record value { named = true }

-- one key more is held, with a code
pub record Puts (old new : HeldValue) (key code : ℕ) : Type 0 where
  pub each : (other : ℕ) → kept new.codes new.held other ≡ (if key == other then Some code else kept old.codes old.held other)
