-- Trusted: the report that a poll has to send, and the moment that it is of.
use Rattle.shapes.specs.Shapes.{Bytes}
use Rattle.std.specs.Prelude.{Bool, true, false, not, if◌then◌else◌, Option, List, [], ◌∷◌, ◌++◌, map, filter, slice_get}
use Rattle.std.specs.Option.{option_map, option_or}
use Rattle.std.specs.Str.{bytes_eq}
use Rattle.circular_buffer.specs.Buffer.{keep_last}
use Rattle.debounce.specs.declared.Scan.{Scan}
use Rattle.reports.specs.declared.Input.{Input}
use Rattle.reports.specs.Queue.{reports_of, waiting}
use Rattle.reports.specs.Poll.{chosen}
use Rattle.layers.specs.Codes.{DefaultCodes}
use Rattle.key_reports.specs.Past.{wanted_after, poller_calls}
use Rattle.control_ep.specs.declared.answer.Effect.{Effect}
use Rattle.control_ep.specs.declared.answer.Effect.TheVariants.{SetProtocol}
use Rattle.keyboard.specs.Calls.{Call, Scanned, In, BusReset}
use Rattle.keyboard.specs.Effects.{effect_reported, protocol_after}
use Rattle.keyboard.specs.Keys.{key_calls}

-- which report is due, and the calls up to the moment that it is of
pub record Due : Type 0 where
  pub moment : List Call
  pub input : Input

module _ (defaults : DefaultCodes) where
  -- its bytes: those that the report has to have at that moment
  abbrev pub due_bytes : Bytes → Due → Bytes
  due_bytes start report = wanted_after (key_calls defaults start report.moment) report.input

  -- whether a scan changes the bytes that a report has to have
  abbrev pub changes : Bytes → List Call → Scan → Input → Bool
  changes start before scan input =
      not (bytes_eq (wanted_after (key_calls defaults start before) input) (wanted_after (key_calls defaults start (Scanned scan ∷ before)) input))

  -- what a scan puts into the queue: each report of the protocol in force whose bytes it changes, of the moment of this scan
  abbrev pub put_by : Bytes → List Call → Scan → List Due
  put_by start before scan =
      map (λ input. record { moment = Scanned scan ∷ before; input = input }) (filter (changes start before scan) (reports_of (protocol_after before)))

-- whether an effect sets the protocol
abbrev pub is_choice : Effect → Bool
is_choice (SetProtocol chosen) = true
is_choice _ = false

module _ (defaults : DefaultCodes) where
  -- all that was put into the queue, oldest first, since the protocol was set, by the empty packet of its status stage (HID
  -- 1.11 section 7.2.6), or the bus was reset: then nothing waits
  unfoldable pub put : Bytes → List Call → List Due
  put start [] = []
  put start (Scanned scan ∷ before) = put start before ++ put_by defaults start before scan
  put start (In answer ∷ before) = if is_choice (effect_reported before answer) then [] else put start before
  put start (BusReset ∷ before) = []
  put start (_ ∷ before) = put start before

  -- those of them that wait, the next one to be sent first: the latest, as many as the queue has
  unfoldable pub waits : Bytes → List Call → List Due
  waits start past = keep_last (waiting (poller_calls (key_calls defaults start past))) (put start past)

  -- the one that the poll rule chooses, of the moment of the poll
  unfoldable pub ruled : Bytes → List Call → Option Due
  ruled start past =
      option_map (λ input. record { moment = past; input = input })
      (chosen (protocol_after past) (wanted_after (key_calls defaults start past)) (poller_calls (key_calls defaults start past)))

  -- what a poll has to send: the first that waits, of the very scan that put it into the queue; else the one of the poll rule,
  -- of now
  unfoldable pub due : Bytes → List Call → Option Due
  due start past = option_or (slice_get (waits start past) 0) (ruled start past)
