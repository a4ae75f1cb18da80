-- A report has at most 23 bytes.
use Rattle.std.proofs.Common.{◌≡◌, ℕ, ◌-◌, ◌≤◌, Bool, true, false, if◌then◌else◌, List, [], ◌∷◌, length, Option, Some, None, slice_get, sym, subst, arith}
use Rattle.std.specs.List.{All}
use Rattle.std.specs.Option.{option_map, option_or}
use Rattle.std.specs.Str.{bytes_eq}
use Rattle.std.proofs.lemmas.List.Elements.{All-append, All-cons, All-nil, All-drop}
use Rattle.layers.specs.Codes.{DefaultCodes}
use Rattle.reports.specs.declared.Input.{Input}
use Rattle.reports.specs.declared.Input.TheVariants.{Boot, One, Two}
use Rattle.reports.specs.declared.Protocol.{Protocol}
use Rattle.reports.specs.declared.Protocol.TheVariants as protocol
use Rattle.reports.specs.Calls.{ticked}
use Rattle.reports.specs.Wanted.{wanted}
use Rattle.reports.specs.Queue.{pushed_by, pushed, waiting, queue}
use Rattle.reports.specs.Poll.{chosen, rule_answer, poll_answer}
use Rattle.reports.proofs.LayoutTheorems.{boot-layout, bitmap-layout, consumer-layout}
use Rattle.key_reports.specs.Calls.{KeyCall}
use Rattle.key_reports.specs.Past.{keys_after, consumer_after, wanted_after, poller_calls, answer_after}
use Rattle.control_ep.specs.declared.answer.Effect.{Effect}
use Rattle.control_ep.specs.declared.answer.Effect.TheVariants.{Nothing, Idle, SetProtocol}
use Rattle.keyboard.specs.Calls.{Call, Scanned, SetUp, Out, In, Polled, Worked, BusReset}
use Rattle.keyboard.specs.Effects.{effect_reported, protocol_after}
use Rattle.keyboard.specs.Keys.{with_effect, key_calls}

abbrev pub Short : List ℕ → Type 0
Short bytes = length bytes ≤ 23

short_wanted : (keys consumer : ℕ → Bool) (input : Input) → Short (wanted keys consumer input)
short_wanted keys consumer Boot = let e = (boot-layout keys).size in omega (arith, e)
short_wanted keys consumer One = let e = (bitmap-layout keys).size in omega (arith, e)
short_wanted keys consumer Two = let e = (consumer-layout consumer).size in omega (arith, e)

one : (bytes : List ℕ) → Short bytes → All Short (bytes ∷ [])
one bytes s = All-cons Short bytes [] s (All-nil Short)

short_changed : (b : Bool) (now : List ℕ) → Short now → All Short (if b then [] else now ∷ [])
short_changed true now s = All-nil Short
short_changed false now s = one now s

short_pushed : (p : Protocol) (before : Input → List ℕ) (keys consumer : ℕ → Bool) → All Short (pushed_by (ticked p before (wanted keys consumer)))
unfolding pushed_by
short_pushed protocol.Boot before keys consumer =
    All-append Short _ [] (short_changed (bytes_eq (before Boot) (wanted keys consumer Boot)) (wanted keys consumer Boot) (short_wanted keys consumer Boot)) (All-nil Short)
short_pushed protocol.Report before keys consumer =
    All-append Short _ _ (short_changed (bytes_eq (before One) (wanted keys consumer One)) (wanted keys consumer One) (short_wanted keys consumer One))
    (All-append Short _ [] (short_changed (bytes_eq (before Two) (wanted keys consumer Two)) (wanted keys consumer Two) (short_wanted keys consumer Two)) (All-nil Short))

reported : (effect : Effect) (calls : List KeyCall) → All Short (pushed (poller_calls calls)) → All Short (pushed (poller_calls (with_effect effect calls)))
unfolding pushed pushed_by poller_calls
reported Nothing calls a = a
reported (Idle id duration) calls a = All-append Short (pushed (poller_calls calls)) [] a (All-nil Short)
reported (SetProtocol chosen) calls a = All-nil Short

module _ (defaults : DefaultCodes) where
  all_pushed : (start : List ℕ) (past : List Call) → All Short (pushed (poller_calls (key_calls defaults start past)))
  unfolding pushed poller_calls key_calls pushed_by
  all_pushed start [] = All-nil Short
  all_pushed start (Scanned scan ∷ before) =
      All-append Short (pushed (poller_calls (key_calls defaults start before))) _ (all_pushed start before)
      (short_pushed (protocol_after before) (wanted_after (key_calls defaults start before)) (keys_after (key_calls defaults start (Scanned scan ∷ before))) (consumer_after (key_calls defaults start (Scanned scan ∷ before))))
  all_pushed start (SetUp bytes ∷ before) = all_pushed start before
  all_pushed start (Out packet answer ∷ before) = all_pushed start before
  all_pushed start (In answer ∷ before) = reported (effect_reported before answer) (key_calls defaults start before) (all_pushed start before)
  all_pushed start (Polled answer ∷ before) = All-append Short (pushed (poller_calls (key_calls defaults start before))) [] (all_pushed start before) (All-nil Short)
  all_pushed start (Worked work image ∷ before) = all_pushed start before
  all_pushed start (BusReset ∷ before) = All-nil Short

  all_waiting : (start : List ℕ) (past : List Call) → All Short (queue (poller_calls (key_calls defaults start past)))
  unfolding queue
  all_waiting start past =
      let calls = poller_calls (key_calls defaults start past) in
      All-drop Short (length (pushed calls) - waiting calls) (pushed calls) (all_pushed start past)

abbrev ShortIf : Option (List ℕ) → Type 0
ShortIf (Some bytes) = Short bytes
ShortIf None = Unit {0}

first_of : (xs : List (List ℕ)) → All Short xs → ShortIf (slice_get xs 0)
first_of [] a = tt
first_of (x ∷ xs) a = a 0 x (omega arith)

either : (a b : Option (List ℕ)) → ShortIf a → ShortIf b → ShortIf (option_or a b)
either (Some x) b s t = s
either None b s t = t

ruled : (keys consumer : ℕ → Bool) (input : Option Input) → ShortIf (option_map (wanted keys consumer) input)
ruled keys consumer (Some input) = short_wanted keys consumer input
ruled keys consumer None = tt

module _ (defaults : DefaultCodes) where
  answer : (start : List ℕ) (past : List Call) (p : Protocol) → ShortIf (answer_after p (key_calls defaults start past))
  unfolding answer_after poll_answer rule_answer
  answer start past p =
      let calls = key_calls defaults start past in
      either (slice_get (queue (poller_calls calls)) 0) (option_map (wanted_after calls) (chosen p (wanted_after calls) (poller_calls calls)))
      (first_of (queue (poller_calls calls)) (all_waiting defaults start past))
      (ruled (keys_after calls) (consumer_after calls) (chosen p (wanted_after calls) (poller_calls calls)))

  pub short : (start : List ℕ) (past : List Call) (p : Protocol) (bytes : List ℕ) → Some bytes ≡ answer_after p (key_calls defaults start past) → length bytes ≤ 23
  short start past p bytes e = let P : Option (List ℕ) → Type 0 = λ o. ShortIf o in subst P (sym e) (answer start past p)
