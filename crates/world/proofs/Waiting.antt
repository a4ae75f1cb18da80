-- What waits for a poll are the reports that the scans put into the queue.
use Rattle.std.proofs.Common.{◌≡◌, ℕ, ◌-◌, Bool, true, false, not, if◌then◌else◌, List, [], ◌∷◌, ◌++◌, length, map, filter, flat_map, drop, slice_get, refl, sym, ◌∙◌, ap, append-nil}
use Rattle.std.specs.Prelude.{Contains}
use Rattle.std.specs.List.{All}
use Rattle.std.specs.Option.{option_map}
use Rattle.std.specs.Str.{bytes_eq}
use Rattle.std.proofs.lemmas.List.{map-append, drop-map, length-map}
use Rattle.std.proofs.lemmas.List.Concat.{flat_map-cons}
use Rattle.std.proofs.lemmas.List.Elements.{All-append, All-nil, All-drop, All-map, All-filter, All-contains_itself}
use Rattle.std.proofs.lemmas.Option.{slice_get-map}
use Rattle.std.proofs.lemmas.Simd.{map-map}
use Rattle.circular_buffer.specs.Buffer.{keep_last}
use Rattle.debounce.specs.declared.Scan.{Scan}
use Rattle.reports.specs.declared.Input.{Input}
use Rattle.reports.specs.declared.Protocol.{Protocol}
use Rattle.reports.specs.Calls.{ticked}
use Rattle.reports.specs.Queue.{reports_of, changed_bytes, pushed_by, pushed, waiting, queue}
use Rattle.layers.specs.Codes.{DefaultCodes}
use Rattle.key_reports.specs.Calls.{KeyCall}
use Rattle.key_reports.specs.Past.{wanted_after, poller_calls}
use Rattle.control_ep.specs.declared.answer.Effect.{Effect}
use Rattle.control_ep.specs.declared.answer.Effect.TheVariants.{Nothing, Idle, SetProtocol}
use Rattle.keyboard.specs.Calls.{Call, Scanned, SetUp, Out, In, Polled, Worked, BusReset}
use Rattle.keyboard.specs.Effects.{effect_reported, protocol_then, protocol_after}
use Rattle.keyboard.specs.Keys.{with_effect, key_calls}
use Rattle.world.specs.Due.{Due, due_bytes, changes, put_by, is_choice, put, waits}

-- ---- what a scan pushes

kept_one : (same : Bool) (now : Input → List ℕ) (x : Input) (xs : List Input) → (if same then [] else now x ∷ []) ++ map now xs ≡ map now (if not same then x ∷ xs else xs)
kept_one true now x xs = refl
kept_one false now x xs = refl

changed_all : (before now : Input → List ℕ) (xs : List Input) → flat_map (λ r. changed_bytes (before r) (now r)) xs ≡ map now (filter (λ r. not (bytes_eq (before r) (now r))) xs)
changed_all before now [] = refl
changed_all before now (x ∷ xs) =
    flat_map-cons (λ r. changed_bytes (before r) (now r)) x xs ∙ ap (λ (l : List (List ℕ)). changed_bytes (before x) (now x) ++ l) (changed_all before now xs)
    ∙ kept_one (bytes_eq (before x) (now x)) now x (filter (λ r. not (bytes_eq (before r) (now r))) xs)

keep_last-map : (f : Due → List ℕ) (n : ℕ) (xs : List Due) → keep_last n (map f xs) ≡ map f (keep_last n xs)
keep_last-map f n xs = ap (λ (k : ℕ). drop (k - n) (map f xs)) (length-map xs f) ∙ drop-map f (length xs - n) xs

abbrev IsOf : Protocol → Due → Type 0
IsOf protocol report = Contains (reports_of protocol) report.input

reported_of : (effect : Effect) (protocol : Protocol) (dues : List Due) → All (IsOf protocol) dues → All (IsOf (protocol_then effect protocol)) (if is_choice effect then [] else dues)
reported_of Nothing protocol dues h = h
reported_of (Idle id duration) protocol dues h = h
reported_of (SetProtocol chosen) protocol dues h = All-nil (IsOf chosen)

module _ (defaults : DefaultCodes) where
  pub pushed_put : (start : List ℕ) (before : List Call) (scan : Scan)
      → pushed_by (ticked (protocol_after before) (wanted_after (key_calls defaults start before)) (wanted_after (key_calls defaults start (Scanned scan ∷ before)))) ≡ map (due_bytes defaults start) (put_by defaults start before scan)
  unfolding pushed_by
  pushed_put start before scan =
      changed_all (wanted_after (key_calls defaults start before)) (wanted_after (key_calls defaults start (Scanned scan ∷ before))) (reports_of (protocol_after before))
      ∙ sym (map-map (due_bytes defaults start) (λ input. record { moment = Scanned scan ∷ before; input = input }) (filter (changes defaults start before scan) (reports_of (protocol_after before))))

  -- ---- all that was pushed

  reported : (start : List ℕ) (effect : Effect) (calls : List KeyCall) (dues : List Due) → pushed (poller_calls calls) ≡ map (due_bytes defaults start) dues
      → pushed (poller_calls (with_effect effect calls)) ≡ map (due_bytes defaults start) (if is_choice effect then [] else dues)
  unfolding pushed pushed_by poller_calls
  reported start Nothing calls dues e = e
  reported start (Idle id duration) calls dues e = append-nil (pushed (poller_calls calls)) ∙ e
  reported start (SetProtocol chosen) calls dues e = refl

  pub all_pushed : (start : List ℕ) (past : List Call) → pushed (poller_calls (key_calls defaults start past)) ≡ map (due_bytes defaults start) (put defaults start past)
  unfolding pushed poller_calls key_calls pushed_by put
  all_pushed start [] = refl
  all_pushed start (Scanned scan ∷ before) =
      ap (λ (l : List (List ℕ)). l ++ pushed_by (ticked (protocol_after before) (wanted_after (key_calls defaults start before)) (wanted_after (key_calls defaults start (Scanned scan ∷ before))))) (all_pushed start before)
      ∙ ap (λ (l : List (List ℕ)). map (due_bytes defaults start) (put defaults start before) ++ l) (pushed_put start before scan)
      ∙ sym (map-append (due_bytes defaults start) (put defaults start before) (put_by defaults start before scan))
  all_pushed start (SetUp bytes ∷ before) = all_pushed start before
  all_pushed start (Out packet answer ∷ before) = all_pushed start before
  all_pushed start (In answer ∷ before) = reported start (effect_reported before answer) (key_calls defaults start before) (put defaults start before) (all_pushed start before)
  all_pushed start (Polled answer ∷ before) = append-nil (pushed (poller_calls (key_calls defaults start before))) ∙ all_pushed start before
  all_pushed start (Worked work image ∷ before) = all_pushed start before
  all_pushed start (BusReset ∷ before) = refl

  -- ---- those that wait

  all_waiting : (start : List ℕ) (past : List Call) → queue (poller_calls (key_calls defaults start past)) ≡ map (due_bytes defaults start) (waits defaults start past)
  unfolding queue waits
  all_waiting start past =
      let n = waiting (poller_calls (key_calls defaults start past)) in
      ap (λ (l : List (List ℕ)). keep_last n l) (all_pushed start past) ∙ keep_last-map (due_bytes defaults start) n (put defaults start past)

  pub first_waiting : (start : List ℕ) (past : List Call) → slice_get (queue (poller_calls (key_calls defaults start past))) 0 ≡ option_map (due_bytes defaults start) (slice_get (waits defaults start past) 0)
  first_waiting start past = ap (λ (l : List (List ℕ)). slice_get l 0) (all_waiting start past) ∙ slice_get-map (due_bytes defaults start) (waits defaults start past) 0

  -- ---- each is one of the protocol in force

  put_of : (start : List ℕ) (before : List Call) (scan : Scan) → All (IsOf (protocol_after before)) (put_by defaults start before scan)
  put_of start before scan =
      let whole = reports_of (protocol_after before) in
      All-map (IsOf (protocol_after before)) (λ input. record { moment = Scanned scan ∷ before; input = input }) (filter (changes defaults start before scan) whole)
      (All-filter (changes defaults start before scan) (Contains whole) whole (All-contains_itself whole))

  all_put_of : (start : List ℕ) (past : List Call) → All (IsOf (protocol_after past)) (put defaults start past)
  unfolding put protocol_after
  all_put_of start [] = All-nil (IsOf (protocol_after []))
  all_put_of start (Scanned scan ∷ before) =
      All-append (IsOf (protocol_after before)) (put defaults start before) (put_by defaults start before scan) (all_put_of start before) (put_of start before scan)
  all_put_of start (SetUp bytes ∷ before) = all_put_of start before
  all_put_of start (Out packet answer ∷ before) = all_put_of start before
  all_put_of start (In answer ∷ before) = reported_of (effect_reported before answer) (protocol_after before) (put defaults start before) (all_put_of start before)
  all_put_of start (Polled answer ∷ before) = all_put_of start before
  all_put_of start (Worked work image ∷ before) = all_put_of start before
  all_put_of start (BusReset ∷ before) = All-nil (IsOf (protocol_after (BusReset ∷ before)))

  pub waits_of : (start : List ℕ) (past : List Call) → All (IsOf (protocol_after past)) (waits defaults start past)
  unfolding waits
  waits_of start past =
      let n = waiting (poller_calls (key_calls defaults start past)) in
      All-drop (IsOf (protocol_after past)) (length (put defaults start past) - n) (put defaults start past) (all_put_of start past)
