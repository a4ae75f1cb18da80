-- Trusted: the samples of a key and its debounced value.
use Rattle.std.specs.Prelude.{ℕ, ◌+◌, min, Bool, true, false, List, [], ◌∷◌, map, if◌then◌else◌, nat_le}
use Rattle.debounce.specs.declared.Scan.{Scan}
use Rattle.debounce.specs.Scans.{has}

-- two values are the same, as a test
abbrev pub same : Bool → Bool → Bool
same true b = b
same false true = false
same false false = true

-- how many of these samples, from the newest on, have this value
abbrev pub run_of : Bool → List Bool → ℕ
run_of x [] = 0
run_of x (y ∷ ys) = if same x y then run_of x ys + 1 else 0

-- how many equal samples in a row make a value
abbrev pub samples_needed : ℕ
samples_needed = 5

-- the value of the latest `samples_needed` equal consecutive samples, newest first; up if there are none
unfoldable pub debounced : List Bool → Bool
debounced [] = false
debounced (x ∷ xs) = if nat_le samples_needed (run_of x (x ∷ xs)) then x else debounced xs

-- how many of the latest samples are equal, newest first, counted to `samples_needed`
unfoldable pub equal_latest : List Bool → ℕ
equal_latest [] = 0
equal_latest (x ∷ xs) = min samples_needed (run_of x (x ∷ xs))

-- the samples of a key in these scans, both newest first
abbrev pub samples : List Scan → ℕ → List Bool
samples scans key = map (λ scan. has scan key) scans

-- whether a key is down after these scans, newest first
unfoldable pub down : List Scan → ℕ → Bool
down scans key = debounced (samples scans key)
