-- Trusted: the reports that wait to be sent, as a function of the poller's calls, newest first.
use Rattle.shapes.specs.Shapes.{Bytes}
use Rattle.std.specs.Prelude.{ℕ, ◌+◌, ◌-◌, min, if◌then◌else◌, List, [], ◌∷◌, ◌++◌, length, flat_map}
use Rattle.std.specs.Str.{bytes_eq}
use Rattle.circular_buffer.specs.Buffer.{keep_last}
use Rattle.reports.specs.declared.Protocol.{Protocol}
use Rattle.reports.specs.declared.Protocol.TheVariants as protocol
use Rattle.reports.specs.declared.Input.{Input}
use Rattle.reports.specs.declared.Input.TheVariants.{Boot, One, Two}
use Rattle.reports.specs.Calls.{PollerCall, ticked, forgets, is_poll}

-- the reports of a protocol, ID 1 before ID 2
abbrev pub reports_of : Protocol → List Input
reports_of protocol.Boot = Boot ∷ []
reports_of protocol.Report = One ∷ Two ∷ []

-- the new bytes of a report, where they are not the old ones
abbrev pub changed_bytes : (before now : Bytes) → List Bytes
changed_bytes before now = if bytes_eq before now then [] else now ∷ []

-- what a scan pushes: each report of the protocol whose wanted bytes it changed
unfoldable pub pushed_by : PollerCall → List Bytes
pushed_by (ticked protocol before now) = flat_map (λ report. changed_bytes (before report) (now report)) (reports_of protocol)
pushed_by _ = []

-- all that was pushed since what was sent was forgotten, oldest first
unfoldable pub pushed : List PollerCall → List Bytes
pushed [] = []
pushed (call ∷ past) = if forgets call then [] else pushed past ++ pushed_by call

-- how many of them wait: each push is one more, up to eight, and each poll one less
unfoldable pub waiting : List PollerCall → ℕ
waiting [] = 0
waiting (call ∷ past) =
    if forgets call then 0 else
    (if is_poll call then waiting past - 1 else min 8 (waiting past + length (pushed_by call)))

-- those that wait, the next one to be sent first: the latest of what was pushed
unfoldable pub queue : List PollerCall → List Bytes
queue past = keep_last (waiting past) (pushed past)
