-- Trusted: what the calls, newest first, come to: scans, presses and releases, the wanted bytes of the reports, the calls
-- of the poller, and the answer of a poll.
use Rattle.shapes.specs.Shapes.{Bytes}
use Rattle.std.specs.Prelude.{ℕ, zero, suc, Bool, ◌&&◌, not, if◌then◌else◌, Option, List, [], ◌∷◌, ◌++◌, map}
use Rattle.debounce.specs.declared.Scan.{Scan}
use Rattle.debounce.specs.Samples.{down}
use Rattle.layers.specs.Codes.{keys}
use Rattle.layers.specs.Held.{HeldCall, Press, Release}
use Rattle.layers.specs.Usages.{key_usages, consumer_usages}
use Rattle.reports.specs.declared.Protocol.{Protocol}
use Rattle.reports.specs.declared.Input.{Input}
use Rattle.reports.specs.Calls.{PollerCall, ticked}
use Rattle.reports.specs.Wanted.{wanted}
use Rattle.reports.specs.Poll.{poll_answer}
use Rattle.key_reports.specs.Calls.{KeyCall, Scanned, Asked}

-- the scans
unfoldable pub scans_of : List KeyCall → List Scan
scans_of [] = []
scans_of (Scanned scan keymap protocol ∷ past) = scan ∷ scans_of past
scans_of (Asked call ∷ past) = scans_of past

-- whether a key is down by the debounced scans
abbrev pub is_down : List KeyCall → ℕ → Bool
is_down past key = down (scans_of past) key

-- whether this scan, after these, presses a key
abbrev pub presses : Scan → List Scan → ℕ → Bool
presses scan scans key = down (scan ∷ scans) key && not (down scans key)

-- whether this scan, after these, releases a key
abbrev pub releases : Scan → List Scan → ℕ → Bool
releases scan scans key = down scans key && not (down (scan ∷ scans) key)

-- the numbers below n that pass the test, the greatest first
unfoldable pub those_below : (ℕ → Bool) → ℕ → List ℕ
those_below test zero = []
those_below test (suc n) = if test n then n ∷ those_below test n else those_below test n

-- the presses and releases: those of a scan are first the releases and then the presses, each by rising key, and so
-- the other way round here, where the newest is first
unfoldable pub held_calls : List KeyCall → List HeldCall
held_calls [] = []
held_calls (Scanned scan keymap protocol ∷ past) =
    map (λ key. Press keymap key) (those_below (presses scan (scans_of past)) keys)
    ++ (map (λ key. Release key) (those_below (releases scan (scans_of past)) keys)
    ++ held_calls past)
held_calls (Asked call ∷ past) = held_calls past

-- the usages of page 07h that the codes of the held keys name
unfoldable pub keys_after : List KeyCall → ℕ → Bool
keys_after past = key_usages (held_calls past)

-- the usages of page 0Ch that they name
unfoldable pub consumer_after : List KeyCall → ℕ → Bool
consumer_after past = consumer_usages (held_calls past)

-- the bytes that each report has to have for these usages
abbrev pub wanted_after : List KeyCall → Input → Bytes
wanted_after past = wanted (keys_after past) (consumer_after past)

-- the calls of the poller: a scan is a tick, with the bytes of each report before the scan and after it
unfoldable pub poller_calls : List KeyCall → List PollerCall
poller_calls [] = []
poller_calls (Scanned scan keymap protocol ∷ past) =
    ticked protocol (wanted_after past) (wanted_after (Scanned scan keymap protocol ∷ past)) ∷ poller_calls past
poller_calls (Asked call ∷ past) = call ∷ poller_calls past

-- what a poll in this protocol answers: the first report that waits, else that of the poll rule
unfoldable pub answer_after : Protocol → List KeyCall → Option Bytes
answer_after protocol past = poll_answer protocol (wanted_after past) (poller_calls past)
