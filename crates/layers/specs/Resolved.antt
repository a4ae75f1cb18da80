-- Trusted where this crate is called: what the tests on held keys come to, as facts.
use Rattle.std.specs.Prelude.{◌≡◌, ◌≢◌, ℕ, ◌<◌, Bool, IsTrue, Option, Some}
use Rattle.layers.specs.Codes.{layers, keys, transparent}
use Rattle.layers.specs.Held.{is_active}

-- a key is held with a code that passes
pub record SomeHas (codes : ℕ → Option ℕ) (test : ℕ → Bool) : Type 0 where
  pub key : ℕ
  pub code : ℕ
  pub in_keys : key < keys
  pub held : codes key ≡ Some code
  pub does : IsTrue (test code)

-- the highest active layer on which the code of a key is not transparent
pub record IsHighest (entries : ℕ → ℕ → ℕ) (codes : ℕ → Option ℕ) (key layer : ℕ) : Type 0 where
  pub in_layers : layer < layers
  pub is : IsTrue (is_active codes layer)
  pub opaque_here : entries layer key ≢ transparent
  pub above : (other : ℕ) → layer < other → other < layers → IsTrue (is_active codes other) → entries other key ≡ transparent

-- the code of a key is transparent on each active layer
pub record IsTransparent (entries : ℕ → ℕ → ℕ) (codes : ℕ → Option ℕ) (key : ℕ) : Type 0 where
  pub each : (layer : ℕ) → layer < layers → IsTrue (is_active codes layer) → entries layer key ≡ transparent
