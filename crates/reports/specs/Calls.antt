-- Trusted: the calls of a poller.
use Rattle.shapes.specs.Shapes.{Bytes}
use Rattle.std.specs.Prelude.{ℕ, Bool, true, false, Option}
use Rattle.reports.specs.declared.Protocol.{Protocol}
use Rattle.reports.specs.declared.IdleId.{IdleId}
use Rattle.reports.specs.declared.Input.{Input}

-- a call of a poller
pub data PollerCall : Type 0 where
  -- a scan in this protocol, with the bytes that each report has to have before it and now
  ticked : (protocol : Protocol) → (before now : Input → Bytes) → PollerCall
  -- a poll in this protocol, with the bytes that it answered, if any
  polled : (protocol : Protocol) → (answer : Option Bytes) → PollerCall
  -- an idle value is set by a request of this ID
  idle_set : (id : IdleId) → (duration : ℕ) → PollerCall
  -- what was sent and what waits is forgotten
  forgot : PollerCall
  -- the same at a reset, which brings back the idle values of the start
  was_reset : PollerCall

-- whether nothing that was sent or pushed before the call counts
abbrev pub forgets : PollerCall → Bool
forgets forgot = true
forgets was_reset = true
forgets _ = false

-- whether the call is a scan
abbrev pub is_tick : PollerCall → Bool
is_tick (ticked protocol before now) = true
is_tick _ = false

-- whether the call is a poll
abbrev pub is_poll : PollerCall → Bool
is_poll (polled protocol answer) = true
is_poll _ = false
