-- Trusted: the keys that a scan names.
use Rattle.shapes.specs.Shapes.{Bytes}
use Rattle.std.specs.Prelude.{◌≡◌, ◌==◌, ℕ, ◌<◌, Bool, List}
use Rattle.std.specs.List.{All, list_any}
use Rattle.std.specs.Str.Parse.{digits_value}
use Rattle.debounce.specs.Scans.{has}
use Rattle.debounce.specs.declared.Scan.{Scan}
use Rattle.script.specs.Numbers.{IsNumberBelow}

-- some word is this key's number
abbrev pub is_named : List Bytes → ℕ → Bool
is_named words key = list_any (λ w. key == digits_value 10 w) words

-- the words are numbers of keys, and the scan has exactly these keys
pub record WritesScan (words : List Bytes) (scan : Scan) : Type 0 where
  pub keys : All (IsNumberBelow 96) words
  pub exactly : (key : ℕ) → key < 96 → has scan key ≡ is_named words key
