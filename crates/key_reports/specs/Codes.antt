-- Trusted: the code of a key, said of its latest press.
use Rattle.shapes.specs.Shapes.{KeyCodes}
use Rattle.std.specs.Prelude.{◌≡◌, ℕ, ◌<◌, ◌&&◌, ◌||◌, Bool, true, false, IsTrue, nat_lt, if◌then◌else◌, Option, Some, None, List, [], ◌∷◌, ◌++◌}
use Rattle.debounce.specs.declared.Scan.{Scan}
use Rattle.debounce.specs.Samples.{down}
use Rattle.layers.specs.Codes.{keys}
use Rattle.layers.specs.Held.{code, resolved}
use Rattle.layers.specs.Keymaps.{code_at}
use Rattle.reports.specs.declared.Protocol.{Protocol}
use Rattle.key_reports.specs.Calls.{KeyCall, Scanned, Asked}
use Rattle.key_reports.specs.Past.{scans_of, held_calls, is_down, presses}

-- the code of a key after these calls
abbrev pub code_after : List KeyCall → ℕ → Option ℕ
code_after past key = code (held_calls past) key

-- whether a call presses a key
abbrev pub pressed_by : KeyCall → List KeyCall → ℕ → Bool
pressed_by (Scanned scan keymap protocol) past key = presses scan (scans_of past) key
pressed_by (Asked call) past key = false

-- none of the later calls presses the key
abbrev pub NonePresses : List KeyCall → List KeyCall → ℕ → Type 0
NonePresses [] past key = Unit {0}
NonePresses (call ∷ later) past key = (pressed_by call (later ++ past) key ≡ false) × NonePresses later past key

-- whether a key is an elder of one that this scan presses: it is down at the scan, and was pressed before it, or by it
-- with a lesser key number
abbrev pub is_elder : Scan → List Scan → ℕ → ℕ → Bool
is_elder scan scans key other = down (scan ∷ scans) other && (down scans other || nat_lt other key)

-- the codes of the elders at that scan
abbrev pub elder_codes : Scan → KeyCodes → Protocol → List KeyCall → ℕ → ℕ → Option ℕ
elder_codes scan keymap protocol past key other =
    if is_elder scan (scans_of past) key other then code_after (Scanned scan keymap protocol ∷ past) other else None

-- the latest press of a key that is down, and the code that it gave: the keymap's on the highest active layer where
-- it is not transparent, with the layers that its elders activate
pub record HasCode (past : List KeyCall) (key : ℕ) : Type 0 where
  pub later : List KeyCall
  pub scan : Scan
  pub keymap : KeyCodes
  pub protocol : Protocol
  pub before : List KeyCall
  pub split : past ≡ later ++ Scanned scan keymap protocol ∷ before
  pub press : presses scan (scans_of before) key ≡ true
  pub latest : NonePresses later (Scanned scan keymap protocol ∷ before) key
  pub code_is : code_after past key ≡ Some (resolved (code_at keymap) (elder_codes scan keymap protocol before key) key)

-- a key that is down has a code that passes
pub record SomeKeyHas (past : List KeyCall) (test : ℕ → Bool) : Type 0 where
  pub key : ℕ
  pub in_keys : key < keys
  pub down_now : is_down past key ≡ true
  pub code : ℕ
  pub has_code : code_after past key ≡ Some code
  pub does : IsTrue (test code)
