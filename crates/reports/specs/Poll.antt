-- Trusted: what a poll answers, as a function of the poller's calls, newest first.
use Rattle.shapes.specs.Shapes.{Bytes}
use Rattle.std.specs.Prelude.{ℕ, ◌+◌, ◌*◌, ◌==◌, Bool, true, false, ◌&&◌, ◌||◌, not, List, [], ◌∷◌, length, Option, Some, None, is_some, unwrap_or, slice_get, if◌then◌else◌, nat_le}
use Rattle.std.specs.Option.{option_map, option_or}
use Rattle.std.specs.Str.{bytes_eq}
use Rattle.reports.specs.declared.Protocol.{Protocol}
use Rattle.reports.specs.declared.Protocol.TheVariants as protocol
use Rattle.reports.specs.declared.IdleId.{IdleId}
use Rattle.reports.specs.declared.IdleId.TheVariants as id
use Rattle.reports.specs.declared.Input.{Input}
use Rattle.reports.specs.declared.Input.TheVariants.{Boot, One, Two}
use Rattle.reports.specs.Calls.{PollerCall, polled, idle_set, was_reset, forgets, is_tick}
use Rattle.reports.specs.Queue.{queue}
use Rattle.reports.specs.Wanted.{wanted}

-- how many bytes each report has
abbrev pub size_of : Input → ℕ
size_of Boot = 8
size_of One = 23
size_of Two = 9

-- whether these bytes are this report: no two reports have the same length
abbrev pub is_report : Input → Bytes → Bool
is_report report bytes = length bytes == size_of report

-- the bytes of this report that the call answered
abbrev pub sent_by : Input → PollerCall → Option Bytes
sent_by report (polled protocol (Some bytes)) = if is_report report bytes then Some bytes else None
sent_by report _ = None

-- the last bytes sent of a report; those without usages if none were
unfoldable pub last_bytes : Input → List PollerCall → Bytes
last_bytes report [] = wanted (λ _. false) (λ _. false) report
last_bytes report (call ∷ past) =
    if forgets call then wanted (λ _. false) (λ _. false) report
    else unwrap_or (sent_by report call) (last_bytes report past)

-- the ticks since a report was sent, since what was sent was forgotten, or since the start
unfoldable pub age : Input → List PollerCall → ℕ
age report [] = 0
age report (call ∷ past) =
    if forgets call || is_some (sent_by report call) then 0
    else age report past + (if is_tick call then 1 else 0)

-- which of the reports 1 and 2 was sent last
unfoldable pub sent_last : List PollerCall → Option Input
sent_last [] = None
sent_last (call ∷ past) =
    if forgets call then None else
    (if is_some (sent_by One call) then Some One else
    (if is_some (sent_by Two call) then Some Two else sent_last past))

-- the idle values at the start, in units of 4 ms: 500 ms for ID 1 and the boot report, no repeats for
-- ID 2
abbrev pub default_idle : Input → ℕ
default_idle Boot = 125
default_idle One = 125
default_idle Two = 0

-- whether an idle request of this ID is for this report
abbrev pub is_for : IdleId → Input → Bool
is_for id.All report = true
is_for id.One Boot = true
is_for id.One One = true
is_for id.One Two = false
is_for id.Two Boot = false
is_for id.Two One = false
is_for id.Two Two = true

-- the idle value of a report: the latest that was set since the start or the latest reset
unfoldable pub idle_value : Input → List PollerCall → ℕ
idle_value report [] = default_idle report
idle_value report (was_reset ∷ past) = default_idle report
idle_value report (idle_set which duration ∷ past) =
    if is_for which report then duration else idle_value report past
idle_value report (_ ∷ past) = idle_value report past

-- its wanted bytes are not the last ones
abbrev pub is_changed : (Input → Bytes) → List PollerCall → Input → Bool
is_changed bytes past report = not (bytes_eq (bytes report) (last_bytes report past))

-- its idle value is not 0, and as many milliseconds went by: a tick is one, the value's unit is four
abbrev pub is_elapsed : List PollerCall → Input → Bool
is_elapsed past report =
    not (idle_value report past == 0) && nat_le (4 * idle_value report past) (age report past)

-- of the reports 1 and 2 those that pass the test; if both do, the one that was not sent last
abbrev pub one_of_two : (Input → Bool) → Option Input → Option Input
one_of_two test (Some One) = if test Two then Some Two else (if test One then Some One else None)
one_of_two test (Some Boot) = if test One then Some One else (if test Two then Some Two else None)
one_of_two test (Some Two) = if test One then Some One else (if test Two then Some Two else None)
one_of_two test None = if test One then Some One else (if test Two then Some Two else None)

-- the report that a poll sends: a changed one, else an elapsed one
abbrev pub chosen : Protocol → (Input → Bytes) → List PollerCall → Option Input
chosen protocol.Boot bytes past =
    if is_changed bytes past Boot || is_elapsed past Boot then Some Boot else None
chosen protocol.Report bytes past =
    if is_changed bytes past One || is_changed bytes past Two
    then one_of_two (is_changed bytes past) (sent_last past)
    else one_of_two (is_elapsed past) (sent_last past)

-- the bytes of that report
unfoldable pub rule_answer : Protocol → (Input → Bytes) → List PollerCall → Option Bytes
rule_answer protocol bytes past = option_map bytes (chosen protocol bytes past)

-- the answer of a poll that wants these bytes of each report: the first report that waits, else the poll rule's
unfoldable pub poll_answer : Protocol → (Input → Bytes) → List PollerCall → Option Bytes
poll_answer protocol bytes past = option_or (slice_get (queue past) 0) (rule_answer protocol bytes past)
